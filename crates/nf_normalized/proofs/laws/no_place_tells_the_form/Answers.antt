use Rattle.nf_normalized.proofs.Common.{arith, bytes_eq-Decides, change_at}
use Rattle.nf_normalized.proofs.laws.no_place_tells_the_form.Goals as goal

pub returns : goal.returns
unfolding change_at
returns c = λ base f x. grind (arith, bytes_eq-Decides)
