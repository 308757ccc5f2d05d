-- It stands so that a wrong body is refused at once: without it the prover would run once more, to offer an answer.
use Rattle.std.proofs.Common.{rules}
use Rattle.nf_row.proofs.plain.is_unchanged.Goals as goal

pub returns-then-class-eq0 : goal.returns-then-class-eq0
returns-then-class-eq0 g c = search rules
