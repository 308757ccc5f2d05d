-- They stand so that a wrong body is refused at once: without them the prover would run once more, to offer answers.
use Rattle.std.proofs.Common.{arith}
use Rattle.std.proofs.lemmas.Grind.{common_steps}
use Rattle.nf_row.proofs.patched.first_answer.Goals as goal

pub returns-in-Some : goal.returns-in-Some
returns-in-Some g c = grind (arith, common_steps)

pub loop-change-preserved : goal.loop-change-preserved
loop-change-preserved g c = grind (arith, common_steps)

pub returns : goal.returns
returns g c = grind (arith, common_steps)
