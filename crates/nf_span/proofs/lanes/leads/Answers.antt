use Rattle.std.proofs.Common.{map, get_or, ap, ◌∙◌}
use Rattle.nf_lanes.specs.Lanes.{places}
use Rattle.nf_lanes.specs.Sets.{byte_sets}
use Rattle.nf_span.specs.declared.leads.TheConstants.{ROWS}
use Rattle.nf_span.proofs.lanes.leads.Goals as goal

pub returns : goal.returns
returns c = c.byte_sets.ensures ∙ ap (λ t. map (λ k. byte_sets ROWS t (get_or c.args.bytes.now k 0)) (places c.args.at)) c.columns.ensures
