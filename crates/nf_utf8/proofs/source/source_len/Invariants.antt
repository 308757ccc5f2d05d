use Rattle.nf_utf8.proofs.Common.{◌≡◌, ◌+◌, ◌≤◌, drop, length, decoded_of}
use Rattle.nf_utf8.specs.Replaced.{source_in}
use Rattle.nf_utf8.proofs.source.source_len.Given as goal

abbrev pub invariant-loop-left : goal.invariant-loop-left
invariant-loop-left l = record {
  within : l.at ≤ length l.bytes;
  passed : source_in (decoded_of l.bytes) l.len ≡ l.at + source_in (decoded_of (drop l.at l.bytes)) l.left;
}

abbrev pub decreases-loop-left : goal.decreases-loop-left
decreases-loop-left l = l.left
