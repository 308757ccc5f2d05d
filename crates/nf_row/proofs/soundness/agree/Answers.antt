-- They stand so that a wrong body is refused at once: without them the prover would run once more, to offer answers.
use Rattle.std.proofs.Common.{rules}
use Rattle.nf_row.proofs.soundness.agree.Goals as goal

pub returns-then-canonical : goal.returns-then-canonical
returns-then-canonical c = search rules

pub returns-else-canonical : goal.returns-else-canonical
returns-else-canonical c = search rules
