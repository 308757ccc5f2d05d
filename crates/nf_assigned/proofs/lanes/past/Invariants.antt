use Rattle.std.proofs.Common.{◌-◌}
use Rattle.nf_assigned.specs.Bytes.{IsFront}
use Rattle.nf_assigned.proofs.lanes.past.Given as goal

abbrev pub invariant-loop-to : goal.invariant-loop-to
invariant-loop-to l = IsFront l.text l.fn.at l.to

abbrev pub decreases-loop-to : goal.decreases-loop-to
decreases-loop-to l = l.end - l.to
