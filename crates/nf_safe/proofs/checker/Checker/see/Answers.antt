use Rattle.nf_safe.proofs.Common.{sym, ◌∙◌, refl, arith, rules}
use Rattle.nf_safe.proofs.CheckerLemmas.{stays, leaves, goes_on}
use Rattle.nf_safe.proofs.checker.Checker.see.Goals as goal

pub returns-then-self-clause-stands : goal.returns-then-self-clause-stands
returns-then-self-clause-stands g c = λ base x before. stays before _ c.if-self.true

pub returns-then-step_by-clause-stands : goal.returns-then-step_by-clause-stands
returns-then-step_by-clause-stands g c = λ base x before.
    leaves before _ c.if-self.false (sym c.in-Some.ensures.sound)
    (sym (c.step_by.ensures.answer _ _ c.in-Some.ensures.ends) ∙ c.if-step_by.true) refl

pub returns-clause-stands : goal.returns-clause-stands
returns-clause-stands g c = λ base x before.
    goes_on before _ c.if-self.false (sym c.in-Some.ensures.sound)
    (sym (c.step_by.ensures.answer _ _ c.in-Some.ensures.ends) ∙ c.if-step_by.false) c.if-self.false refl
    (omega arith) (c.step_by.ensures.count _ _ c.in-Some.ensures.ends)

-- It stands so that a wrong body is refused at once: without it the prover would run once more, to offer an answer.
pub returns-in_default-clause-refused : goal.returns-in_default-clause-refused
returns-in_default-clause-refused g c = search rules
