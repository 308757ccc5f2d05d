use Rattle.std.proofs.Common.{◌-◌, ◌<◌, ◌≤◌}
use Rattle.nf_assigned.specs.Bytes.{IsFamily, IsFront}
use Rattle.nf_assigned.proofs.lanes.assigned_len.Given as goal

abbrev pub invariant-loop-at : goal.invariant-loop-at
invariant-loop-at l = record {
  front : IsFront l.text 0 l.at;
  few : l.windows ≤ 63;
  some : 0 < l.looked_up;
  less : l.looked_up ≤ 63;
  family : IsFamily l.family;
  other : IsFamily l.other;
}

abbrev pub decreases-loop-at : goal.decreases-loop-at
decreases-loop-at l = l.end - l.at
