-- What checking a text in memory comes to.
use Rattle.std.proofs.Common.{◌≡◌, ◌⊎◌, inl, inr, Bool, true, false, ℕ, ◌<◌, ◌^◌, List, ◌++◌, length, Option, Some, None, Result, Err, refl, sym, ap, ◌∙◌, arith, append-nil, IfErr, length-append}
use Rattle.nf_utf8.specs.Reading.{ending_of}
use Rattle.nf_safe.specs.declared.place.Place.{Place}
use Rattle.nf_c.proofs.Common.{Fault, TooLong, Row, Moved, Read}
use Rattle.nf_filter.specs.Faults.{answer_at_end}
use Rattle.nf_filter.specs.Surveys.{IsOfSurvey, Surveys}
use Rattle.nf_filter.specs.Laws.Soundness.{RefusesNone}
use Rattle.nf_normalized.specs.Checker.{IsOfText}
use Rattle.nf_c.specs.declared.checking.Text.{Text}
use Rattle.nf_c.specs.declared.status.Status.{Status}
use Rattle.nf_c.specs.Checks.{state_of, checked, IsOfCheck, IsOfFormCheck, ChecksBy}

pub of_check : (answer : Result (Option Place) Fault) → IfErr answer IsOfSurvey → RefusesNone answer → ¬ (answer ≡ Err TooLong) → ¬ (answer ≡ Err Read) → IfErr answer IsOfCheck
of_check (Err TooLong) among sound long read = absurd (long refl)
of_check (Err Read) among sound long read = absurd (read refl)
of_check (Err (Row at)) among sound long read = absurd (sound at refl)
of_check answer among sound long read = among

pub of_form_check : (answer : Result (Option Place) Fault) → IfErr answer IsOfText → ¬ (answer ≡ Err TooLong) → ¬ (answer ≡ Err Read) → IfErr answer IsOfFormCheck
of_form_check (Err TooLong) among long read = absurd (long refl)
of_form_check (Err Read) among long read = absurd (read refl)
of_form_check answer among long read = among

module _ (decision : List ℕ → Option (Result (Option Place) Fault)) (value : List ℕ → Option Place) (found : Status) (IsOfKind : Fault → Type 0)
    (input : List ℕ) (text left : Text) (answer : Result (Option Place) Fault) (all : text.rest.now ≡ input) (surveys : Surveys 4096 0 decision value (state_of text) (state_of left) answer) where
  looked_at : input ≡ (surveys.before ++ surveys.last) ++ left.rest.now
  looked_at = sym all ∙ surveys.given

  not_long : length input < 2 ^ 64 → ¬ (answer ≡ Err TooLong)
  not_long fits e = absurd (omega (arith, fits, surveys.too_long.0 e, ap length looked_at, length-append (surveys.before ++ surveys.last) left.rest.now, length-append surveys.before surveys.last))

  pub Checks-from : length input < 2 ^ 64 → ¬ (answer ≡ Err Read) → (¬ (answer ≡ Err TooLong) → ¬ (answer ≡ Err Read) → IfErr answer IsOfKind) → (moved : Moved) → moved ≡ checked found answer (length input) → ChecksBy decision value found IsOfKind input moved
  Checks-from fits read among moved is = record {
    answer = answer;
    is = is;
    among = among (not_long fits) read;
    front = surveys.before ++ surveys.last;
    rest = left.rest.now;
    looked_at = looked_at;
    decided = by_end left.ended refl;
  }
    where
      by_end : (b : Bool) → left.ended ≡ b → (decision (surveys.before ++ surveys.last) ≡ Some answer) ⊎ ((decision input ≡ None) × (answer ≡ answer_at_end 0 (value input) (ending_of input)))
      by_end false e = inl (surveys.decided e (not_long fits) read)
      by_end true e =
          let ended = surveys.ended e in
          let same : surveys.before ≡ input = sym (looked_at ∙ ap (λ l. (surveys.before ++ surveys.last) ++ l) (surveys.read_out e) ∙ append-nil (surveys.before ++ surveys.last) ∙ ap (λ l. surveys.before ++ l) ended.0 ∙ append-nil surveys.before) in
          inr (ap decision (sym same) ∙ surveys.undecided, ended.1 ∙ ap (λ l. answer_at_end 0 (value l) (ending_of l)) same)
