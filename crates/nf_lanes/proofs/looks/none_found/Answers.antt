use Rattle.std.proofs.Common.{◌+◌, slice_index, arith}
use Rattle.nf_lanes.specs.Sets.{pair_sets}
use Rattle.nf_lanes.proofs.looks.none_found.Goals as goal

pub returns : goal.returns
returns c told k few =
    let bytes = c.args.bytes.now in
    let at = c.args.at in
    let none = (c.none_of.ensures (λ k. pair_sets c.args.family.now (slice_index bytes k) (slice_index bytes (k + 1))) at c.pair_sets.ensures c.pair_sets-2.ensures c.pair_sets-3.ensures c.pair_sets-4.ensures).0 told in
    (none (at + k) (omega arith) (omega arith), none (at + k + 1) (omega arith) (omega arith))
