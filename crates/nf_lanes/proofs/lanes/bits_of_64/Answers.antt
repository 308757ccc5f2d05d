use Rattle.std.proofs.Common.{not, ◌+◌, ◌==◌}
use Rattle.nf_lanes.proofs.lanes.bits_of_64.Goals as goal

pub of_64-requires : goal.of_64-requires
of_64-requires c = record { few = (c.bits.ensures.few, c.bits-2.ensures.few, c.bits-3.ensures.few, c.bits-4.ensures.few) }

pub returns : goal.returns
returns c h at first second third last =
    c.of_64.ensures (λ k. not (h k == 0)) at (c.bits.ensures.each h at first) (c.bits-2.ensures.each h (at + 16) second) (c.bits-3.ensures.each h (at + 32) third) (c.bits-4.ensures.each h (at + 48) last)
