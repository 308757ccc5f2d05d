use Rattle.std.proofs.Common.{◌<◌, ◌^◌, length, false, refl, ap, subst₂, rules}
use Rattle.nf_c.specs.Checks.{ChecksForm}
use Rattle.nf_c.proofs.Common.{Policy}
use Rattle.nf_c.proofs.ChecksLemmas.{of_form_check, Checks-from}
use Rattle.nf_c.proofs.checking.check_form.Goals as goal

pub returns-clause-checks : goal.returns-clause-checks
returns-clause-checks c = λ _.
    let fits : length c.args.input.now < 2 ^ 64 = search rules in
    subst₂ (λ assigned form. ChecksForm assigned form c.args.input.now c.told.result) (ap (λ (p : Policy). p.assigned) c.in-Some-policy_of.ensures.policy) c.in-Some.ensures.form
    (Checks-from _ _ _ _ c.args.input.now (record { rest = c.args.input; ended = false }) c.check_form-answer.new.source c.check_form-answer.result refl c.check_form-answer.ensures.surveys fits
    (λ e. let failed = c.check_form-answer.ensures.read.0 e in cc) (of_form_check c.check_form-answer.result c.check_form-answer.ensures.faults) _ c.told.ensures)
