use Rattle.nf_filter.proofs.Common.{◌≡◌, [], Ok, Err, Some, None, refl, sym, ap, arith, option_map, Option, Fault, measure_decision, text_measure, measured_undecided}
use Rattle.nf_safe.specs.declared.measure.Measure.{Measure}
use Rattle.nf_filter.proofs.ReadingLemmas.{holds_nothing, HasSurveyed-none}
use Rattle.nf_filter.proofs.SurveysLemmas.{all_read}
use Rattle.nf_filter.proofs.FilterLemmas.{decided_in-fault}
use Rattle.nf_filter.proofs.measuring.measure_buffered.Goals as goal

pub survey-requires-clause-ready : goal.survey-requires-clause-ready
survey-requires-clause-ready g c =
    let none = holds_nothing c.new.result.decoder c.new.ensures.decoder in
    let zero = ap (λ m. m.bytes) (c.new-2.ensures (g.R.Rows.properties c.args.rows.now)).values in
    record { held = omega arith; end = omega arith }

pub returns-clause-surveys : goal.returns-clause-surveys
returns-clause-surveys g c =
    let p = g.R.Rows.properties c.args.rows.now in
    let base = c.args.base in
    let seen = c.new-2.ensures p in
    c.survey.ensures.surveys (record { base = base; decision = measure_decision p base; value = text_measure p })
    (HasSurveyed-none c.new.ensures.offset c.new.ensures.decoder seen (measured_undecided p c.new-2.result base [] seen) (λ bytes. sym (decided_in-fault p base bytes)) (λ bytes. refl))

pub returns-clause-end : goal.returns-clause-end
returns-clause-end g c = all_read c.survey.result (returns-clause-surveys g c) (λ measure is bytes. no_answer _)
  where
    no_answer : {measure : Measure} (fault : Option Fault) → ¬ (option_map Err fault ≡ Some (Ok measure))
    no_answer None e = cc
    no_answer (Some fault) e = cc
