use Rattle.nf_filter.proofs.Common.{◌≡◌, [], Option, None, Some, Ok, refl, sym, ap, ◌∙◌, arith, Place, Fault, place_or_fault, decided_or, text_decision, check_decision, no_place, checked_undecided}
use Rattle.nf_filter.proofs.ReadingLemmas.{holds_nothing, HasSurveyed-none}
use Rattle.nf_filter.proofs.SurveysLemmas.{all_read, place_told}
use Rattle.nf_filter.proofs.ChecksLemmas.{new_checked}
use Rattle.nf_filter.proofs.checking.check_buffered.Goals as goal

pub survey-requires-clause-ready : goal.survey-requires-clause-ready
survey-requires-clause-ready g c =
    let none = holds_nothing c.new.result.decoder c.new.ensures.decoder in
    record { held = omega arith; end = (c.new-2.ensures.place, omega arith) }

pub returns-clause-surveys : goal.returns-clause-surveys
unfolding check_decision
returns-clause-surveys g c =
    let p = g.R.Rows.properties c.args.rows.now in
    let base = c.args.base in
    let seen = new_checked (c.new-2.ensures.stands p) c.new-2.ensures.place in
    c.survey.ensures.surveys (record { base = base; decision = check_decision p base; value = no_place })
    (HasSurveyed-none c.new.ensures.offset c.new.ensures.decoder seen (checked_undecided p c.new-2.result base [] seen) (λ bytes. refl) (λ bytes. refl))

pub returns-clause-end : goal.returns-clause-end
unfolding check_decision text_decision
returns-clause-end g c = λ none. rw none at (all_read c.survey.result (returns-clause-surveys g c) (λ place is bytes e. told _ _ _ (e ∙ ap Some (sym is ∙ none))))
  where
    told : (place : Option Place) (row bad : Option Fault) → ¬ (decided_or (place_or_fault place row) bad ≡ Some (Ok None))
    told None None bad e = place_told None bad e
    told _ _ _ e = cc
