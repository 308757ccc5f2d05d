use Rattle.nf_lines.proofs.Common.{◌≤◌, length, drop, HasNoLineFeed}
use Rattle.nf_lines.proofs.cutting.lines_len.Given as goal

abbrev pub invariant-loop-n : goal.invariant-loop-n
invariant-loop-n l = record {
  within : l.n ≤ length l.bytes;
  rest : HasNoLineFeed (drop l.n l.bytes);
}

abbrev pub decreases-loop-n : goal.decreases-loop-n
decreases-loop-n l = l.n
