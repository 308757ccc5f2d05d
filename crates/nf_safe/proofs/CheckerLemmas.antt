-- A checker's steps.
use Rattle.nf_safe.proofs.Common.{◌≡◌, ℕ, ◌+◌, ◌≤◌, true, false, not, List, [], ◌∷◌, ◌++◌, length, Some, None, is_some, encode_utf8, encode_utf8_all, sym, ap, ◌∙◌, arith, if◌then◌else◌, length-append, encodes-append, cond-true, cond-false, Properties, Nfkd, trail, decomposed, is_sound, passes, count_step, is_in_format, place_from, count_step-within, trail-decomposed-counted, is_in_format-push, is_in_format-join, is_in_format-short, decomposed-append, max_run, place_from-in_format, place_from-at, place_from-stays}
use Rattle.std.specs.Prelude.{IsNone, chars}
use Rattle.nf_counts.specs.Counts.{IsCountedFront}
use Rattle.nf_counts.specs.declared.counted.Counted.{Counted}
use Rattle.nf_safe.proofs.CountedLemmas.{IsCounted}
use Rattle.nf_safe.proofs.RunsLemmas.{trail-after}
use Rattle.nf_safe.specs.declared.place.Place.{Place}
use Rattle.nf_safe.specs.declared.checker.Checker.{Checker}
use Rattle.nf_safe.specs.Checker.{place_of, StandsAfter, HasSeen}

-- while the text is in the format
pub stands_on : {base : ℕ} {p : Properties} {checker : Checker} {x : List ℕ} → checker.is_over ≡ false → is_in_format p x ≡ true → checker.reached.chars ≡ length x
    → checker.reached.bytes ≡ base + length (encode_utf8_all x) → checker.counter ≡ trail p (decomposed Nfkd p x) → StandsAfter base p checker x
stands_on {base} {p} {checker} {x} on here chars bytes count = record {
  place = cond-false _ _ _ on ∙ sym (place_from-in_format p base x here);
  in_format = λ _. here;
  offset = λ _. bytes;
  chars = λ _. chars;
  count = λ _. count;
}

module _ {base : ℕ} {p : Properties} {old : Checker} {x : List ℕ} (before : StandsAfter base p old x) (c : ℕ) where
  -- where the format was left, the place is all
  left : (new : Checker) (at : Place) → place_of new ≡ Some at → place_from base p (x ++ c ∷ []) ≡ Some at → StandsAfter base p new (x ++ c ∷ [])
  left new at found is =
      let some = ap is_some found in
      record { place = found ∙ sym is; in_format = λ none. cc; offset = λ none. cc; chars = λ none. cc; count = λ none. cc }

  pub stays : old.is_over ≡ true → StandsAfter base p old (x ++ c ∷ [])
  stays over =
      let found : place_of old ≡ Some old.reached = cond-true _ _ _ over in
      left old old.reached found (place_from-stays p base x c old.reached (sym before.place ∙ found))

  module _ (on : old.is_over ≡ false) (sound : is_sound p c ≡ true) where
    none : IsNone (place_of old)
    none = ap is_some (cond-false _ _ _ on)

    -- with c the text is in the format, or not
    in_format : is_in_format p (x ++ c ∷ []) ≡ not (passes p old.counter (p.compat c))
    in_format = grind (arith, is_in_format-push p x c sound, before.in_format none, before.count none)

    pub leaves : {new : Checker} → passes p old.counter (p.compat c) ≡ true → place_of new ≡ Some old.reached → StandsAfter base p new (x ++ c ∷ [])
    leaves {new} long found =
        left new old.reached found (rw (before.chars none, before.offset none) (place_from-at p base x c (before.in_format none) (in_format ∙ ap not long)))

    pub goes_on : {new : Checker} → passes p old.counter (p.compat c) ≡ false → new.is_over ≡ false → new.reached.chars ≡ old.reached.chars + 1
        → new.reached.bytes ≡ old.reached.bytes + length (encode_utf8 c) → new.counter ≡ count_step p old.counter (p.compat c) → StandsAfter base p new (x ++ c ∷ [])
    goes_on short still chars bytes count =
        stands_on still (in_format ∙ ap not short)
        (omega (arith, before.chars none, length-append x (c ∷ [])))
        (omega (arith, before.offset none, ap length (encodes-append x (c ∷ [])), length-append (encode_utf8_all x) (encode_utf8 c ++ []), length-append (encode_utf8 c) []))
        (rw (trail-decomposed-counted p x c, ← before.count none, ← count_step-within p old.counter (p.compat c) short) count)

-- after a front that is counted
pub goes_on-counted : {base : ℕ} {p : Properties} {old new : Checker} {x : List ℕ} {room : ℕ} {text : List ℕ} {counted : Counted} → StandsAfter base p old x → IsCountedFront p room text counted → IsCounted p text counted
    → old.counter + counted.counts.lead ≤ max_run → place_of old ≡ None → new.is_over ≡ old.is_over → new.reached.chars ≡ old.reached.chars + length (chars counted.front.now)
    → new.reached.bytes ≡ old.reached.bytes + length counted.front.now → new.counter ≡ (if counted.counts.has_starter then counted.counts.trail else old.counter + counted.counts.lead) → HasSeen base p new x text counted.rest.now
goes_on-counted {base} {p} {old} {new} {x} {room} {text} {counted} before is at short on same chars_are bytes count =
    let none = ap is_some on in
    let y = chars counted.front.now in
    let has = is.counts in
    let here = is_in_format-join p x y (before.in_format none) (is_in_format-short p y (omega arith)) (omega (arith, before.count none)) in
    record {
      front = y;
      is_front = at.split;
      sound = is.sound;
      stands = stands_on (grind arith) here
          (omega (arith, before.chars none, length-append x y))
          (omega (arith, before.offset none, ap length at.bytes, ap length (encodes-append x y), length-append (encode_utf8_all x) (encode_utf8_all y)))
          (count ∙ trail-after p (decomposed Nfkd p x) (decomposed Nfkd p y) has.has_starter has.lead has.trail (before.count none) ∙ ap (trail p) (sym (decomposed-append p Nfkd x y)));
    }
