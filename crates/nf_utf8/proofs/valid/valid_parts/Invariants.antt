use Rattle.std.proofs.Common.{◌≤◌, ◌-◌, length, take, IsUtf8}
use Rattle.nf_utf8.proofs.valid.valid_parts.Given as goal

abbrev pub invariant-loop-at : goal.invariant-loop-at
invariant-loop-at l = record {
  within : l.at ≤ length l.bytes;
  front : IsUtf8 (take l.at l.bytes);
  size : 4 ≤ l.size;
}

abbrev pub decreases-loop-at : goal.decreases-loop-at
decreases-loop-at l = length l.bytes - l.at
