use Rattle.std.proofs.Common.{◌+◌, slice_index}
use Rattle.nf_lanes.specs.Sets.{pair_sets}
use Rattle.nf_lanes.proofs.looks.family_bits.Goals as goal

pub returns : goal.returns
returns c =
    c.bits_of_64.ensures (λ k. pair_sets c.args.family.now (slice_index c.args.bytes.now k) (slice_index c.args.bytes.now (k + 1))) c.args.at
    c.pair_sets.ensures c.pair_sets-2.ensures c.pair_sets-3.ensures c.pair_sets-4.ensures
