-- A measurer's step.
use Rattle.nf_safe.proofs.Common.{◌≡◌, ℕ, ◌+◌, ◌≤◌, longest, max_run, not, Bool, true, cond, List, [], ◌∷◌, ◌++◌, length, encode_utf8, encode_utf8_all, refl, sym, ap, ◌∙◌, subst, arith, if◌then◌else◌, length-append, count_by, and_from, sum_by-append, encodes-append, Properties, Nfkd, trail, decomposed, joiner, is_too_long, stream_safe, is_sound, IsSoundText, JoinerIsPlain-from_sound, longest-order, stream_safe-push, decomposed-append, decomposed-push, passes, count_step, trail-decomposed-safe_step, length-stream_safe-ge, HasRuns, is_in_format-stream_safe, is_in_format-join, is_in_format-short}
use Rattle.std.specs.List.{list_all}
use Rattle.nf_forms.specs.Laws.Segments.{sound-append}
use Rattle.nf_counts.specs.Counts.{IsCountedFront}
use Rattle.nf_counts.specs.declared.counted.Counted.{Counted}
use Rattle.nf_safe.proofs.CountedLemmas.{IsCounted}
use Rattle.nf_safe.proofs.RunsLemmas.{trail-after}
use Rattle.nf_safe.specs.declared.measure.Measure.{Measure}
use Rattle.nf_safe.specs.declared.measurer.Measurer.{Measurer}
use Rattle.nf_safe.specs.Measurer.{values_of, StandsAfter, HasSeen}
use Rattle.nf_safe.specs.Measures.{measure_of}
use Rattle.nf_safe.specs.Laws.Pieces.{length-safe_step, stream_safe-in_format}
use Rattle.nf_forms.specs.StreamSafe.{with_room, safe_step}
use Rattle.std.proofs.lemmas.Bool.{cond_both}
use Rattle.std.specs.Prelude.{fold, chars}
use Rattle.std.proofs.lemmas.List.Sums.{fold-append}

-- a measure is its six numbers
abbrev pub measured : ℕ → ℕ → ℕ → ℕ → ℕ → ℕ → Measure
measured a b c d e f = record { bytes = a; chars = b; nonstarters = c; longest = d; put = e; unassigned = f }

pub same_values : {a b c d e f k l m n o q : ℕ} → a ≡ k → b ≡ l → c ≡ m → d ≡ n → e ≡ o → f ≡ q → measured a b c d e f ≡ measured k l m n o q
same_values bytes chars nonstarters longest put unassigned = cc

module _ {p : Properties} {old : Measurer} {x : List ℕ} (before : StandsAfter p old x) where
  -- what is measured with the characters y after
  values_with : (new : Measurer) (y : List ℕ) → HasRuns p new.runs (decomposed Nfkd p (x ++ y)) → new.bytes ≡ old.bytes + length (encode_utf8_all y) → new.chars ≡ old.chars + length y
      → new.put + length (stream_safe p x) + length y ≡ old.put + length (stream_safe p (x ++ y)) → new.unassigned ≡ old.unassigned + count_by (λ c. not (p.assigned c)) y
      → values_of new ≡ measure_of p (x ++ y)
  values_with new y runs bytes chars put unassigned = same_values
      (omega (arith, ap (λ m. m.bytes) before.values, ap length (encodes-append x y), length-append (encode_utf8_all x) (encode_utf8_all y)))
      (omega (arith, ap (λ m. m.chars) before.values, length-append x y))
      runs.nonstarters
      (runs.longest ∙ sym (longest-order p (decomposed Nfkd p (x ++ y))))
      (omega (arith, ap (λ m. m.put) before.values, length-append x y, length-stream_safe-ge p x))
      (omega (arith, ap (λ m. m.unassigned) before.values, sum_by-append (λ c. cond (not (p.assigned c)) 1 0) x y))

  -- the count decides where the joiner is put
  pub goes_on : {new : Measurer} {b : Bool} (c : ℕ) → is_sound p c ≡ true → b ≡ passes p old.counter (p.compat c) → (b ≡ true → is_sound p joiner ≡ true)
      → new.counter ≡ count_step p old.counter (p.compat c) → HasRuns p new.runs (decomposed Nfkd p x ++ p.compat c)
      → new.bytes ≡ old.bytes + length (encode_utf8 c) → new.chars ≡ old.chars + 1 → new.put ≡ old.put + cond b 1 0
      → new.unassigned ≡ old.unassigned + cond (not (p.assigned c)) 1 0 → StandsAfter p new (x ++ c ∷ [])
  goes_on {new} {b} c sound answer joins count runs bytes chars put unassigned =
      let out = stream_safe p x in
      let is : b ≡ is_too_long p out c = answer ∙ ap (λ n. passes p n (p.compat c)) before.count in
      let push = stream_safe-push p x c in
      let room_sound : IsSoundText p (with_room p out c) =
      cond_both (is_too_long p out c) _ _ (IsSoundText p) (λ long. sound-append p Nfkd out (joiner ∷ []) before.sound (and_from _ _ (joins (is ∙ long)) refl)) (λ _. before.sound) in
      let runs_are : HasRuns p new.runs (decomposed Nfkd p (x ++ c ∷ [])) = subst (HasRuns p new.runs) (sym (decomposed-push p Nfkd x c)) runs in
      record {
        sound = ap (list_all (is_sound p)) push ∙ sound-append p Nfkd (with_room p out c) (c ∷ []) room_sound (and_from _ _ sound refl);
        values = values_with new (c ∷ []) runs_are (omega (arith, length-append (encode_utf8 c) [])) chars
            (omega (arith, ap length push, length-safe_step p out c, ap (λ b. cond {A = ℕ} b 1 0) is)) (omega arith);
        count = count ∙ ap (λ n. count_step p n (p.compat c)) before.count
            ∙ sym (ap (λ o. trail p (decomposed Nfkd p o)) push ∙ trail-decomposed-safe_step p out c (λ long. JoinerIsPlain-from_sound p (joins (is ∙ long))));
        runs = runs_are;
      }

-- after a front of which the non-starters are counted
pub goes_on-counted : {p : Properties} {old new : Measurer} {x : List ℕ} {room : ℕ} {text : List ℕ} {counted : Counted} → StandsAfter p old x → IsCountedFront p room text counted → IsCounted p text counted
    → old.counter + counted.counts.lead ≤ max_run → new.counter ≡ (if counted.counts.has_starter then counted.counts.trail else old.counter + counted.counts.lead)
    → HasRuns p new.runs (decomposed Nfkd p x ++ decomposed Nfkd p (chars counted.front.now)) → new.bytes ≡ old.bytes + length counted.front.now → new.chars ≡ old.chars + length (chars counted.front.now)
    → new.put ≡ old.put → new.unassigned ≡ old.unassigned + counted.counts.unassigned → HasSeen p new x text counted.rest.now
goes_on-counted {p} {old} {new} {x} {room} {text} {counted} before is at short count runs bytes chars_are put unassigned =
    let y = chars counted.front.now in
    let has = is.counts in
    let out = stream_safe p x in
    let inside = is_in_format-stream_safe p x before.sound in
    -- no joiner is put where no run gets too long
    let safe : stream_safe p (x ++ y) ≡ out ++ y =
    fold-append (safe_step p) [] x y
    ∙ ap (λ o. fold (safe_step p) o y) (sym (stream_safe-in_format p out inside))
    ∙ sym (fold-append (safe_step p) [] out y)
    ∙ stream_safe-in_format p (out ++ y) (is_in_format-join p out y inside (is_in_format-short p y (omega arith)) (omega arith)) in
    let runs_are : HasRuns p new.runs (decomposed Nfkd p (x ++ y)) = subst (HasRuns p new.runs) (sym (decomposed-append p Nfkd x y)) runs in
    record {
      front = y;
      is_front = at.split;
      stands = record {
        sound = ap (list_all (is_sound p)) safe ∙ sound-append p Nfkd out y before.sound is.sound;
        values = values_with before new y runs_are (omega (arith, ap length at.bytes)) chars_are (omega (arith, ap length safe, length-append out y)) (unassigned ∙ ap (λ n. old.unassigned + n) is.unassigned);
        count = count ∙ trail-after p (decomposed Nfkd p out) (decomposed Nfkd p y) has.has_starter has.lead has.trail before.count
            ∙ sym (ap (λ o. trail p (decomposed Nfkd p o)) safe ∙ ap (trail p) (decomposed-append p Nfkd out y));
        runs = runs_are;
      };
    }
