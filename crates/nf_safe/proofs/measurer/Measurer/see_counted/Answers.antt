use Rattle.nf_safe.proofs.Common.{[], refl, append-nil, arith, rules}
use Rattle.nf_safe.proofs.CountedLemmas.{counted_is}
use Rattle.nf_safe.proofs.MeasurerLemmas.{goes_on-counted}
use Rattle.nf_safe.proofs.measurer.Measurer.see_counted.Goals as goal

pub push_counts-requires : goal.push_counts-requires
push_counts-requires g c = let at = counted_is c.counted_front-counted.ensures (search rules) in omega arith

pub overflow_add-self-2 : goal.overflow_add-self-2
overflow_add-self-2 g c = let at = counted_is c.counted_front-counted.ensures (search rules) in omega arith

pub overflow_add-self-3 : goal.overflow_add-self-3
overflow_add-self-3 g c = let at = counted_is c.counted_front-counted.ensures (search rules) in omega arith

pub invariant_of-self : goal.invariant_of-self
invariant_of-self g c =
    let at = counted_is c.counted_front-counted.ensures (search rules) in
    record { chars_within = omega arith; put_within = omega arith; unassigned_within = omega arith; nonstarters_within = omega arith }

pub returns-then-not-is_ucd-clause-sees : goal.returns-then-not-is_ucd-clause-sees
returns-then-not-is_ucd-clause-sees g c = λ x before. record { front = []; is_front = refl; stands = rw append-nil before }

pub returns-clause-sees : goal.returns-clause-sees
returns-clause-sees g c = λ x before.
    let is = rw (← c.is_ucd.ensures c.if-not-is_ucd.false) at c.counted_front-counted.ensures in
    goes_on-counted before is (counted_is is (search rules)) (omega arith) c.pass.ensures
    (c.push_counts.ensures.runs _ _ _ is.counts before.runs) refl (omega arith) refl refl
