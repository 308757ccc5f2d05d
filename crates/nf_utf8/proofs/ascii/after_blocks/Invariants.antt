use Rattle.std.proofs.Common.{ℕ, ◌-◌, ◌<◌, ◌≤◌, length, get_or}
use Rattle.nf_utf8.proofs.ascii.after_blocks.Given as goal

abbrev pub invariant-loop-at : goal.invariant-loop-at
invariant-loop-at l = record {
  further : l.from ≤ l.at;
  within : l.at ≤ length l.bytes;
  ascii : (k : ℕ) → k < l.at → get_or l.bytes k 0 < 0x80;
}

abbrev pub decreases-loop-at : goal.decreases-loop-at
decreases-loop-at l = length l.bytes - l.at
