use Rattle.nf_filter.proofs.Common.{◌++◌, ℕ, List, Err, sym, ap, ◌∙◌, option_map, HasMeasured, HasTakenFront, unusable_decision, Properties, ◌≡◌, ◌+◌, Bool, true, false, not, ◌&&◌, ◌||◌, [], ◌∷◌, length, Some, None, arith, if◌then◌else◌, encode_utf8_all, joiner, is_too_long, stream_safe, is_sound, IsSoundText, refusal, unsound_at, Row, is_usable, first_fault, utf8_place, is_usable-push}
use Rattle.nf_safe.specs.declared.measurer.Measurer.{Measurer}
use Rattle.nf_safe.specs.Measurer.{HasSeen}
use Rattle.nf_filter.proofs.TakingLemmas.{offset_after, takes-char, decides-char}
use Rattle.nf_row.specs.declared.unsound.Unsound.{Unsound}
use Rattle.nf_filter.proofs.PolicyLemmas.{first_fault-stop}
use Rattle.nf_filter.proofs.measuring.MeasurerTaker.take_front.Goals as goal

module _ (p : Properties) where
  -- what a measurer refuses cannot be used
  unusable : (x : List ℕ) (c : ℕ) (e : Unsound) → Some e ≡ option_map refusal (unsound_at p x c) → is_usable p (x ++ c ∷ []) ≡ false
  unusable x c e refused =
      is_usable-push p x c ∙ next (is_usable p x) (is_too_long p (stream_safe p x) c) (is_sound p joiner) (is_sound p c) refused
    where
      next : (u l j s : Bool) → Some e ≡ option_map refusal (if s then (if l && not j then Some joiner else None) else Some c) → (u && (not l || j) && s) ≡ false
      next u l j true is = grind arith
      next u l j false is = grind arith

  -- a character that is refused after x
  refusal_at : (base : ℕ) {at : ℕ} (x : List ℕ) (c : ℕ) {e : Unsound} (y : List ℕ) → IsSoundText p (stream_safe p x) → at ≡ base + length (encode_utf8_all x) → Some e ≡ option_map refusal (unsound_at p x c)
      → first_fault false p (utf8_place base) ((x ++ c ∷ []) ++ y) None ≡ Some (Row at)
  unfolding is_usable
  refusal_at base x c {e} y sound here refused = rw here (first_fault-stop p x c y sound (unusable x c e refused) (utf8_place base))

-- what is known of it
counted : (base : ℕ) {p : Properties} {measurer : Measurer} {x text rest : List ℕ} → HasSeen p measurer x text rest → HasTakenFront (HasMeasured p measurer base) x text rest
counted base seen = record { front = seen.front; is_front = seen.is_front; taken = seen.stands }

pub returns-in-Ok-clause-takes : goal.returns-in-Ok-clause-takes
returns-in-Ok-clause-takes g c = λ base x before here.
    let known = counted base (c.see_counted-rest.ensures.sees x before) in
    takes-char known _ _ c.see_counted-rest.utf8 (cc (c.in-Some.ensures.steps.0)) (c.in-Ok.ensures.stands (x ++ known.front) known.taken)

pub returns-in-Err-clause-takes : goal.returns-in-Err-clause-takes
returns-in-Err-clause-takes g c = λ base x before here.
    let p = g.R.Rows.properties c.args.rows.now in
    let utf8 = c.see_counted-rest.utf8 in
    let known = counted base (c.see_counted-rest.ensures.sees x before) in
    decides-char known _ _ utf8 (sym c.chars-chars.ensures.rest ∙ c.in-Some.ensures.steps.0) (unusable_decision p base)
    (λ more. ap (option_map Err) (refusal_at p base _ _ more known.taken.sound (offset_after known base c.utf8.text utf8 here) (c.in-Err.ensures.refuses (x ++ known.front) known.taken)))
