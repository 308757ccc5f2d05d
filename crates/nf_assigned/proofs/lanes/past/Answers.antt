use Rattle.std.proofs.Common.{refl, arith}
use Rattle.nf_assigned.proofs.lanes.past.Goals as goal

pub loop-to-preserved : goal.loop-to-preserved
loop-to-preserved c =
    let more = c.in_default-first_unassigned.ensures.none refl in
    (omega (arith, c.loop-to.invariant.0), more.1, more.2)
