-- It stands so that a wrong body is refused at once: without it the prover would run once more, to offer an answer.
use Rattle.std.proofs.Common.{rules}
use Rattle.nf_row.proofs.auditing.first_failed.Goals as goal

pub returns-then-not-is_full : goal.returns-then-not-is_full
returns-then-not-is_full g c = search rules
