use Rattle.nf_normalized.proofs.Common.{Some, refl, sym, ap, ◌∙◌, arith, form_decision, form_value}
use Rattle.nf_filter.proofs.SurveysLemmas.{all_read, place_told}
use Rattle.nf_normalized.proofs.checking.check_form_buffered.Goals as goal

pub returns-clause-surveys : goal.returns-clause-surveys
returns-clause-surveys g c =
    let base = c.args.base in
    c.survey.ensures.surveys (record { base = base; decision = form_decision c.args.assigned c.args.form base; value = form_value c.args.form base }) (record {
      assigned = c.args.assigned;
      form = c.args.form;
      stands = c.new.ensures.stands;
      offset = omega (arith, c.new.ensures.offset);
      decides = λ bytes. refl;
      worth = λ bytes. refl;
    })

pub returns-clause-end : goal.returns-clause-end
unfolding form_decision
returns-clause-end g c = λ none. rw none at (all_read c.survey.result (returns-clause-surveys g c) (λ place is bytes e. place_told _ _ (e ∙ ap Some (sym is ∙ none))))
