use Rattle.std.proofs.Common.{arith}
use Rattle.std.proofs.lemmas.Bool.Decides.{nat_tests}
use Rattle.nf_row.proofs.non_starters.NonStarters.of_one.Goals as goal

pub returns : goal.returns
returns c = λ p k starts. grind (arith, nat_tests)
