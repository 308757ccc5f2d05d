use Rattle.nf_safe.proofs.Common.{[], refl, append-nil, arith, rules}
use Rattle.nf_safe.proofs.CountedLemmas.{counted_is}
use Rattle.nf_safe.proofs.CheckerLemmas.{goes_on-counted}
use Rattle.nf_safe.proofs.checker.Checker.see_counted.Goals as goal

pub overflow_add-self : goal.overflow_add-self
overflow_add-self g c = let at = counted_is c.counted_front-counted.ensures (search rules) in omega arith

pub invariant_of-self : goal.invariant_of-self
invariant_of-self g c = let at = counted_is c.counted_front-counted.ensures (search rules) in record { chars_within = omega arith }

pub returns-then-not-is_ucd-clause-sees : goal.returns-then-not-is_ucd-clause-sees
returns-then-not-is_ucd-clause-sees g c = λ base x before. record { front = []; is_front = refl; sound = refl; stands = rw append-nil before }

pub returns-clause-sees : goal.returns-clause-sees
returns-clause-sees g c = λ base x before.
    let is = rw (← c.is_ucd.ensures c.if-not-is_ucd.false) at c.counted_front-counted.ensures in
    goes_on-counted before is (counted_is is (search rules)) (omega (arith, is.leads)) c.requires.none refl
    (omega arith) refl c.pass.ensures
