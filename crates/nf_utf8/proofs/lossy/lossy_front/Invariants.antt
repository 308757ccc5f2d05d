use Rattle.nf_utf8.proofs.Common.{◌≤◌, ◌-◌, true, chars, drop, length, take, IsUtf8, IsLeft}
use Rattle.nf_utf8.proofs.lossy.lossy_front.Given as goal

abbrev pub invariant-loop-text : goal.invariant-loop-text
invariant-loop-text l = record {
  room : l.text ≤ 1024;
  text : IsUtf8 (take l.text l.lossy-inside.bytes);
  left : IsLeft true l.bytes (chars (take l.text l.lossy-inside.bytes)) l.len (drop l.len l.bytes);
  within : l.len ≤ length l.bytes;
}

abbrev pub decreases-loop-text : goal.decreases-loop-text
decreases-loop-text l = length l.bytes - l.len
