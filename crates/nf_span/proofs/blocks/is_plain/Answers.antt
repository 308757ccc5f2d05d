use Rattle.std.proofs.Common.{get_or}
use Rattle.nf_span.specs.Leads.{lead_bits}
use Rattle.nf_span.proofs.blocks.is_plain.Goals as goal

pub returns : goal.returns
returns c =
    c.none_of.ensures (λ k. lead_bits c.args.form (get_or c.args.bytes.now k 0)) c.args.at c.leads.ensures c.leads-2.ensures c.leads-3.ensures c.leads-4.ensures
