use Rattle.nf_safe.proofs.Common.{arith, refl, is_in_format-none}
use Rattle.nf_safe.proofs.CheckerLemmas.{stands_on}
use Rattle.nf_safe.proofs.checker.Checker.new.Goals as goal

pub returns-clause-stands : goal.returns-clause-stands
returns-clause-stands c = λ p. stands_on refl (is_in_format-none p) refl (omega arith) c.new.ensures.count
