-- The stream-safe text is the text's greedy cut with a joiner between each two pieces.
use Rattle.std.proofs.Common.{◌≡◌, ℕ, zero, suc, ◌+◌, ◌≤◌, true, false, cond, List, [], ◌∷◌, ◌++◌, length, take, drop, refl, sym, ap, ap₂, ◌∙◌, subst, arith, append-nil, append_assoc, length-drop}
use Rattle.std.specs.Prelude.{fold}
use Rattle.std.specs.List.{list_all}
use Rattle.std.proofs.lemmas.Bool.{cond-true, and_parts}
use Rattle.std.proofs.lemmas.List.{length-append, length-take-le, take-append-drop}
use Rattle.std.proofs.lemmas.List.Folds.{list_all-append}
use Rattle.std.proofs.lemmas.List.Sums.{fold-append}
use Rattle.std.proofs.Math.Seq.{take-append_seam, drop-append_seam}
use Rattle.nf_forms.specs.Properties.{Properties}
use Rattle.nf_forms.specs.declared.form.Form.TheVariants.{Nfkd}
use Rattle.nf_forms.specs.StreamSafe.{joiner, is_too_long, safe_step, stream_safe}
use Rattle.nf_forms.specs.Sound.{is_sound}
use Rattle.nf_forms.specs.Laws.Last.{by_last}
use Rattle.nf_forms.specs.Laws.Sound.{IsSoundText, IsSound-from_test, JoinerIsPlain-from_sound, sound_last}
use Rattle.nf_forms.specs.Laws.StreamSafe.{stream_safe-push, longest-le-length, trail-decomposed-joiner}
use Rattle.nf_forms.specs.Laws.Closing.{safe-segments}
use Rattle.nf_forms.specs.Laws.Audited.{stream_safe-short}
use Rattle.nf_safe.specs.LongestFront.{longest_front, IsLongestFront}
use Rattle.nf_safe.specs.Place.{is_in_format}
use Rattle.nf_safe.specs.Pieces.{IsGreedyCut, rejoined}
use Rattle.nf_safe.specs.Laws.Count.{sound-fold}
use Rattle.nf_safe.specs.Laws.LongestFront.{longest_front-ge, longest_front_is}
use Rattle.nf_safe.specs.Laws.Place.{is_in_format-none, is_in_format-push, is_in_format-short, longest-in_format, is_in_format-stream_safe}

module _ (p : Properties) where
  sound-parts : (x y : List ℕ) → IsSoundText p (x ++ y) → IsSoundText p x × IsSoundText p y
  sound-parts x y sound = and_parts _ _ (sym (list_all-append (is_sound p) x y) ∙ sound)

  longest : (x : List ℕ) → IsLongestFront (is_in_format p) x (longest_front (is_in_format p) x)
  longest x = longest_front_is (is_in_format p) x (is_in_format-none p)

  -- ---- text in the format goes through the process as it is, and no other does

  pub stream_safe-in_format : (x : List ℕ) → is_in_format p x ≡ true → stream_safe p x ≡ x
  stream_safe-in_format x inside = stream_safe-short p x (longest-in_format p x inside)

  pub in_format-unchanged : (x : List ℕ) → IsSoundText p x → stream_safe p x ≡ x → is_in_format p x ≡ true
  in_format-unchanged x sound same =
      sym (ap (is_in_format p) same) ∙ is_in_format-stream_safe p x (ap (list_all (is_sound p)) same ∙ sound)

  pub sound-source : (x : List ℕ) → IsSoundText p (stream_safe p x) → IsSoundText p x
  sound-source x sound = (sound-fold p [] x sound).1

  -- a step takes nothing away
  pub length-safe_step : (out : List ℕ) (c : ℕ) → length (safe_step p out c) ≡ length out + 1 + cond (is_too_long p out c) 1 0
  length-safe_step out c = grind (arith, length-append)

  pub length-stream_safe-ge : (x : List ℕ) → length x ≤ length (stream_safe p x)
  length-stream_safe-ge = by_last (λ x. length x ≤ length (stream_safe p x)) (omega arith)
      (λ x c before. omega (arith, ap length (stream_safe-push p x c), length-safe_step (stream_safe p x) c, length-append x (c ∷ [])))

  -- ---- a piece, and what comes after it

  -- alone a character is in the format
  one-in_format : (c : ℕ) → is_sound p c ≡ true → is_in_format p (c ∷ []) ≡ true
  one-in_format c sound =
      is_in_format-short p (c ∷ []) (omega (arith, longest-le-length p (p.compat c ++ []), length-append (p.compat c) [], (IsSound-from_test p c sound).compat_few))

  -- where one character more leaves the format, a joiner goes before it, and the rest is filtered alone
  put-after : (piece : List ℕ) (d : ℕ) (rest : List ℕ) → IsSoundText p (stream_safe p (piece ++ d ∷ rest))
      → is_in_format p piece ≡ true → is_in_format p (piece ++ d ∷ []) ≡ false
      → stream_safe p (piece ++ d ∷ rest) ≡ piece ++ joiner ∷ stream_safe p (d ∷ rest)
  put-after piece d rest sound inside out =
      let put = piece ++ joiner ∷ [] in
      let d_sound = (and_parts _ _ (sound-parts piece (d ∷ rest) (sound-source (piece ++ d ∷ rest) sound)).1).0 in
      let long : is_too_long p piece d ≡ true =
      grind (arith, is_in_format-push p piece d d_sound) in
      let step : stream_safe p (piece ++ d ∷ rest) ≡ fold (safe_step p) (put ++ d ∷ []) rest =
      fold-append (safe_step p) [] piece (d ∷ rest)
      ∙ ap (λ o. fold (safe_step p) (safe_step p o d) rest) (stream_safe-in_format piece inside)
      ∙ ap (λ o. fold (safe_step p) (o ++ d ∷ []) rest) (cond-true _ _ _ long) in
      let joins = (sound_last p piece joiner (sound_last p put d (sound-fold p (put ++ d ∷ []) rest (ap (list_all (is_sound p)) (sym step) ∙ sound)).0).0).1 in
      step
      ∙ safe-segments p put (d ∷ []) rest (trail-decomposed-joiner p (JoinerIsPlain-from_sound p joins) Nfkd piece)
      ∙ ap (λ o. put ++ fold (safe_step p) o rest) (sym (stream_safe-in_format (d ∷ []) (one-in_format d d_sound)))
      ∙ append_assoc piece (joiner ∷ []) (stream_safe p (d ∷ rest))

  -- ---- the cut

  -- a piece is in the format, and the character after it leaves the format
  piece-inside : (piece rest : List ℕ) → length piece ≡ longest_front (is_in_format p) (piece ++ rest) → is_in_format p piece ≡ true
  piece-inside piece rest len = rw (← len, take-append_seam piece rest) at (longest (piece ++ rest)).passes

  piece-ends : (piece : List ℕ) (d : ℕ) (rest : List ℕ) → length piece ≡ longest_front (is_in_format p) (piece ++ d ∷ rest) → is_in_format p (piece ++ d ∷ []) ≡ false
  piece-ends piece d rest len =
      rw (← append_assoc piece (d ∷ []) rest, take-append_seam (piece ++ d ∷ []) rest)
      at ((longest (piece ++ d ∷ rest)).longer (length (piece ++ d ∷ [])) (simp length-append (omega arith)) (simp length-append (omega arith)))

  pub stream_safe-cut : (x : List ℕ) → IsSoundText p (stream_safe p x) → (pieces : List (List ℕ)) → IsGreedyCut p x pieces → stream_safe p x ≡ rejoined pieces
  stream_safe-cut x sound [] cut = ap (stream_safe p) cut
  stream_safe-cut x sound (piece ∷ []) cut =
      let all : x ≡ piece ++ [] = cut.1 ∙ ap (λ r. piece ++ r) cut.4 in
      ap (stream_safe p) (all ∙ append-nil piece) ∙ stream_safe-in_format piece (piece-inside piece [] (cut.3 ∙ ap (longest_front (is_in_format p)) all))
  stream_safe-cut x sound (piece ∷ next ∷ pieces) cut = from cut.0 cut.1 cut.4 (λ sound. stream_safe-cut cut.0 sound (next ∷ pieces) cut.4)
    where
      from : (rest : List ℕ) → x ≡ piece ++ rest → IsGreedyCut p rest (next ∷ pieces) → (IsSoundText p (stream_safe p rest) → stream_safe p rest ≡ rejoined (next ∷ pieces))
          → stream_safe p x ≡ piece ++ joiner ∷ rejoined (next ∷ pieces)
      from [] text after before = absurd (omega (arith, after.2, ap length after.1, length-append next after.0))
      from (d ∷ rest) text after before =
          let len = cut.3 ∙ ap (longest_front (is_in_format p)) text in
          let whole = put-after piece d rest (ap (λ v. list_all (is_sound p) (stream_safe p v)) (sym text) ∙ sound) (piece-inside piece (d ∷ rest) len) (piece-ends piece d rest len) in
          let split = ap (stream_safe p) text ∙ whole in
          split ∙ ap (λ v. piece ++ joiner ∷ v) (before (and_parts _ _ (sound-parts piece _ (ap (list_all (is_sound p)) (sym split) ∙ sound)).1).1)

  -- there is one, and no other
  cut-within : (n : ℕ) (x : List ℕ) → length x ≤ n → IsSoundText p x → (pieces : List (List ℕ)) × IsGreedyCut p x pieces
  cut-within n [] short sound = ([], refl)
  cut-within zero (c ∷ x) short sound = absurd (omega arith)
  cut-within (suc n) (c ∷ x) short sound =
      let k = longest_front (is_in_format p) (c ∷ x) in
      let some : 1 ≤ k = longest_front-ge (is_in_format p) (c ∷ x) 1 (omega arith) (one-in_format c (and_parts _ _ sound).0) in
      let whole = take-append-drop k (c ∷ x) in
      let len : length (take k (c ∷ x)) ≡ k = length-take-le k (c ∷ x) (longest (c ∷ x)).within in
      let rest = cut-within n (drop k (c ∷ x)) (omega (arith, length-drop k (c ∷ x))) (sound-parts (take k (c ∷ x)) (drop k (c ∷ x)) (ap (list_all (is_sound p)) whole ∙ sound)).1 in
      (take k (c ∷ x) ∷ rest.0, (drop k (c ∷ x), sym whole, omega arith, len, rest.1))

  pub cut-some : (x : List ℕ) → IsSoundText p x → (pieces : List (List ℕ)) × IsGreedyCut p x pieces
  cut-some x sound = cut-within (length x) x (omega arith) sound

  pub cut-only : (x : List ℕ) (a b : List (List ℕ)) → IsGreedyCut p x a → IsGreedyCut p x b → a ≡ b
  cut-only x [] [] first second = refl
  cut-only x [] (piece ∷ b) first second = absurd (omega (arith, second.2, ap length (sym first ∙ second.1), length-append piece second.0))
  cut-only x (piece ∷ a) [] first second = absurd (omega (arith, first.2, ap length (sym second ∙ first.1), length-append piece first.0))
  cut-only x (piece ∷ a) (other ∷ b) first second =
      let len : length piece ≡ length other = first.3 ∙ sym second.3 in
      let text = sym first.1 ∙ second.1 in
      let same = sym (take-append_seam piece first.0) ∙ ap₂ take len text ∙ take-append_seam other second.0 in
      let rest = sym (drop-append_seam piece first.0) ∙ ap₂ drop len text ∙ drop-append_seam other second.0 in
      ap₂ (λ u v. u ∷ v) same (cut-only second.0 a b (subst (λ r. IsGreedyCut p r a) rest first.4) second.4)
