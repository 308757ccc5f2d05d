use Rattle.nf_safe.proofs.Common.{◌≡◌, true, refl, sym, arith, joiner, is_sound}
use Rattle.nf_safe.proofs.MeasurerLemmas.{goes_on}
use Rattle.nf_safe.proofs.measurer.Measurer.see.Goals as goal

pub returns-clause-stands : goal.returns-clause-stands
returns-clause-stands g c = λ x before.
    let joins : c.step_by-is_too_long.result ≡ true → is_sound (g.R.Rows.properties c.args.rows.now) joiner ≡ true = λ joined. grind arith in
    let ends = c.in-Some.ensures.ends in
    goes_on before _ (sym c.in-Some.ensures.sound) (c.step_by-is_too_long.ensures.answer _ _ ends) joins (c.step_by-is_too_long.ensures.count _ _ ends)
    (c.in-Some.ensures.runs _ before.runs) (omega arith) refl (grind arith) (grind arith)
