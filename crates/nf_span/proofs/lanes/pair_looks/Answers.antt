use Rattle.std.proofs.Common.{◌+◌, map, get_or, ap, ◌∙◌}
use Rattle.nf_lanes.specs.Lanes.{places}
use Rattle.nf_lanes.specs.Sets.{pair_sets}
use Rattle.nf_span.specs.Leads.{lead_bits}
use Rattle.nf_span.specs.Closer.{pairs_of}
use Rattle.nf_span.proofs.LookLemmas.{by_pair}
use Rattle.nf_span.proofs.lanes.pair_looks.Goals as goal

pub returns : goal.returns
returns c =
    let bytes = c.args.bytes.now in
    rw (c.bits_of_either.ensures (λ k. pair_sets (pairs_of c.args.form) (get_or bytes k 0) (get_or bytes (k + 1) 0)) (λ k. lead_bits c.args.form (get_or bytes k 0)) c.args.at
    (c.pair_sets-pairs.ensures ∙ ap (λ t. map (λ k. pair_sets t (get_or bytes k 0) (get_or bytes (k + 1) 0)) (places c.args.at)) c.pairs_of.ensures)
    c.leads.ensures)
    (by_pair c.args.form bytes c.args.at)
