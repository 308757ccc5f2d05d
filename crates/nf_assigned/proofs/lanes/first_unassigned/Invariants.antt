use Rattle.std.proofs.Common.{◌<◌}
use Rattle.nf_assigned.specs.Bytes.{AreFound}
use Rattle.nf_assigned.proofs.lanes.first_unassigned.Given as goal

abbrev pub invariant-loop-left : goal.invariant-loop-left
invariant-loop-left l = record {
  fits : l.left < 18446744073709551616;
  found : AreFound l.text l.at l.left;
}

abbrev pub decreases-loop-left : goal.decreases-loop-left
decreases-loop-left l = l.left
