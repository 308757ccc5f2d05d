use Rattle.nf_cmd.proofs.Common.{length, take, ◌-◌, ◌≤◌, Appends}
use Rattle.nf_cmd.proofs.writing.write_front.Given as goal

abbrev pub invariant-loop-at : goal.invariant-loop-at
invariant-loop-at g l = (l.at ≤ length l.bytes) × Appends (g.O.Write.contents l.fn.out) (g.O.Write.contents l.out) (take l.at l.bytes)

abbrev pub decreases-loop-at : goal.decreases-loop-at
decreases-loop-at g l = length l.bytes - l.at
