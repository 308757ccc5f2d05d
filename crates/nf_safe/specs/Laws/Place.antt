-- The format and the place of a text that grows at its end.
use Rattle.std.proofs.Common.{◌≡◌, ℕ, ◌+◌, ◌≤◌, nat_le, true, false, not, ◌&&◌, List, [], ◌∷◌, ◌++◌, length, take, drop, Some, None, sym, ap, ◌∙◌, arith}
use Rattle.std.specs.Prelude.{option_map, encode_utf8_all}
use Rattle.std.proofs.lemmas.Bool.{leb-true, le-leb, eq-eqb, cond-true, cond-false}
use Rattle.std.proofs.lemmas.Bool.Decides.{nat_tests}
use Rattle.std.proofs.lemmas.List.{take-append-le, take-append-drop, append-nil}
use Rattle.std.proofs.Math.Seq.{take-length, take-append_seam}
use Rattle.nf_forms.specs.Properties.{Properties}
use Rattle.nf_forms.specs.declared.form.Form.TheVariants.{Nfkd}
use Rattle.nf_forms.specs.Runs.{lead, trail, longest}
use Rattle.nf_forms.specs.Forms.{decomposed}
use Rattle.nf_forms.specs.StreamSafe.{max_run, stream_safe}
use Rattle.nf_forms.specs.Sound.{is_sound}
use Rattle.nf_forms.specs.Laws.Runs.{longest-append}
use Rattle.nf_forms.specs.Laws.Starters.{longest-order}
use Rattle.nf_forms.specs.Laws.Sound.{IsSoundText, IsSound-from_test}
use Rattle.nf_forms.specs.Laws.StreamSafe.{decomposed-append, longest-le-length, longest-decomposed-push, longest-stream_safe-le}
use Rattle.nf_safe.specs.declared.place.Place.{Place}
use Rattle.nf_safe.specs.Count.{passes}
use Rattle.nf_safe.specs.LongestFront.{longest_front}
use Rattle.nf_safe.specs.Place.{is_in_format, place, place_at, place_from}
use Rattle.nf_safe.specs.Laws.LongestFront.{longest_front-push, longest_front-all, longest_front-le, longest_front_is}

module _ (p : Properties) where
  trail-le-longest : (w : List ℕ) → trail p w ≤ longest p w
  trail-le-longest w = omega (arith, longest-append p w [], ap (longest p) (append-nil w))

  -- putting a text in order changes no run
  longest-normal_form : (x : List ℕ) → is_in_format p x ≡ nat_le (longest p (decomposed Nfkd p x)) max_run
  longest-normal_form x = ap (λ n. nat_le n max_run) (longest-order p (decomposed Nfkd p x))

  pub is_in_format-short : (x : List ℕ) → longest p (decomposed Nfkd p x) ≤ max_run → is_in_format p x ≡ true
  is_in_format-short x short = longest-normal_form x ∙ le-leb _ max_run short

  pub longest-in_format : (x : List ℕ) → is_in_format p x ≡ true → longest p (decomposed Nfkd p x) ≤ max_run
  longest-in_format x here = leb-true _ max_run (sym (longest-normal_form x) ∙ here)

  pub trail-in_format : (x : List ℕ) → is_in_format p x ≡ true → trail p (decomposed Nfkd p x) ≤ max_run
  trail-in_format x here = omega (arith, trail-le-longest (decomposed Nfkd p x), longest-in_format x here)

  pub is_in_format-none : is_in_format p [] ≡ true
  is_in_format-none = longest-normal_form []

  pub is_in_format-push : (x : List ℕ) (c : ℕ) → is_sound p c ≡ true
      → is_in_format p (x ++ c ∷ []) ≡ (is_in_format p x && not (passes p (trail p (decomposed Nfkd p x)) (p.compat c)))
  is_in_format-push x c sound =
      grind (arith, nat_tests, longest-normal_form (x ++ c ∷ []), longest-normal_form x, longest-decomposed-push p Nfkd x c, longest-le-length p (p.compat c), (IsSound-from_test p c sound).compat_few)

  pub is_in_format-append : (x y : List ℕ) → is_in_format p (x ++ y) ≡ true → is_in_format p x ≡ true
  is_in_format-append x y here =
      is_in_format-short x (omega (arith, longest-in_format (x ++ y) here, ap (longest p) (decomposed-append p Nfkd x y), longest-append p (decomposed Nfkd p x) (decomposed Nfkd p y)))

  pub is_in_format-take : (x : List ℕ) (n : ℕ) → is_in_format p x ≡ true → is_in_format p (take n x) ≡ true
  is_in_format-take x n here = is_in_format-append (take n x) (drop n x) (ap (is_in_format p) (take-append-drop n x) ∙ here)

  -- two texts in the format are in it together, where the run between them is not too long
  pub is_in_format-join : (x y : List ℕ) → is_in_format p x ≡ true → is_in_format p y ≡ true → trail p (decomposed Nfkd p x) + lead p (decomposed Nfkd p y) ≤ max_run → is_in_format p (x ++ y) ≡ true
  is_in_format-join x y first second room =
      is_in_format-short (x ++ y) (omega (arith, ap (longest p) (decomposed-append p Nfkd x y), longest-append p (decomposed Nfkd p x) (decomposed Nfkd p y), longest-in_format x first, longest-in_format y second))

  pub place-in_format : (x : List ℕ) → is_in_format p x ≡ true → place p x ≡ None
  place-in_format x here = cond-true _ _ _ (eq-eqb _ _ (longest_front-all (is_in_format p) x here))

  -- the place is the longest front of a text that is not in the format
  place-out : (x : List ℕ) → is_in_format p x ≡ false → place p x ≡ Some (longest_front (is_in_format p) x)
  place-out x out = grind (arith, nat_tests, take-length x, (longest_front_is (is_in_format p) x is_in_format-none).passes)

  -- so it is that of the text before the last character
  place-push : (x : List ℕ) (c : ℕ) → is_in_format p (x ++ c ∷ []) ≡ false → place p (x ++ c ∷ []) ≡ Some (longest_front (is_in_format p) x)
  place-push x c out = place-out (x ++ c ∷ []) out ∙ ap Some (longest_front-push (is_in_format p) x c ∙ cond-false _ _ _ out)

  module _ (base : ℕ) where
    pub place_from-in_format : (x : List ℕ) → is_in_format p x ≡ true → place_from base p x ≡ None
    place_from-in_format x here = ap (option_map (place_at base x)) (place-in_format x here)

    pub place_from-none : (x : List ℕ) → place_from base p x ≡ None → is_in_format p x ≡ true
    place_from-none x none = grind (arith, place-out x)

    -- the place is where the format is left first
    pub place_from-at : (x : List ℕ) (c : ℕ) → is_in_format p x ≡ true → is_in_format p (x ++ c ∷ []) ≡ false
        → place_from base p (x ++ c ∷ []) ≡ Some (record { chars = length x; bytes = base + length (encode_utf8_all x) })
    place_from-at x c before after = rw (place-push x c after, longest_front-all (is_in_format p) x before, take-append_seam x (c ∷ []))

    -- and it stays, whatever follows
    pub place_from-stays : (x : List ℕ) (c : ℕ) (at : Place) → place_from base p x ≡ Some at → place_from base p (x ++ c ∷ []) ≡ Some at
    place_from-stays x c at found =
        let out : is_in_format p x ≡ false = grind (arith, place_from-in_format x) in
        let after : is_in_format p (x ++ c ∷ []) ≡ false = grind (arith, is_in_format-append x (c ∷ [])) in
        rw (place-push x c after, take-append-le (longest_front (is_in_format p) x) x (c ∷ []) (longest_front-le (is_in_format p) x)) (rw (place-out x out) at found)

  -- the stream-safe text is in the format
  pub is_in_format-stream_safe : (x : List ℕ) → IsSoundText p (stream_safe p x) → is_in_format p (stream_safe p x) ≡ true
  is_in_format-stream_safe x sound = is_in_format-short (stream_safe p x) (longest-stream_safe-le p x sound)
