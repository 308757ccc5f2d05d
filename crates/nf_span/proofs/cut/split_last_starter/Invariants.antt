use Rattle.std.proofs.Common.{length}
use Rattle.nf_span.specs.Split.{MarksAfter}
use Rattle.nf_span.proofs.cut.split_last_starter.Given as goal

abbrev pub invariant-loop-c : goal.invariant-loop-c
invariant-loop-c l = MarksAfter l.text l.chars.rest.now

abbrev pub decreases-loop-c : goal.decreases-loop-c
decreases-loop-c l = length l.chars.rest.now
