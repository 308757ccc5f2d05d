-- They stand so that a wrong body is refused at once: without them the prover would run once more, to offer answers.
use Rattle.std.proofs.Common.{arith}
use Rattle.std.proofs.lemmas.Grind.{common_steps}
use Rattle.nf_row.proofs.plain.is_first_in_none.Goals as goal

pub returns-then-is_some : goal.returns-then-is_some
returns-then-is_some g c = grind (arith, common_steps)

pub loop-second-preserved : goal.loop-second-preserved
loop-second-preserved g c = grind (arith, common_steps)
