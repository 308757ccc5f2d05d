-- It stands so that a wrong body is refused at once: without it the prover would run once more, to offer an answer.
use Rattle.std.proofs.Common.{rules}
use Rattle.nf_row.proofs.soundness.is_plain.Goals as goal

pub returns-then-compat : goal.returns-then-compat
returns-then-compat g c = search rules
