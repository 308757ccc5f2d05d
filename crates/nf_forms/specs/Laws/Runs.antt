-- How the runs of a text follow from those of its parts.
use Rattle.std.proofs.Common.{◌≡◌, ℕ, suc, ◌+◌, ◌≤◌, max, Bool, true, false, not, ◌||◌, cond, List, [], ◌∷◌, ◌++◌, length, reverse, refl, sym, ap, ◌∙◌, arith, zero-add}
use Rattle.std.proofs.lemmas.Bool.{or_parts, cond-true}
use Rattle.std.proofs.lemmas.List.{reverse-append, length-reverse}
use Rattle.std.proofs.lemmas.List.Folds.{list_any-append}
use Rattle.std.proofs.lemmas.List.Sums.{prefix_len-le-length, suffix_len-le-length}
use Rattle.std.proofs.lemmas.List.Sorted.{IsPermutation-reverse, list_any-IsPermutation}
use Rattle.std.specs.Prelude.{if◌then◌else◌}
use Rattle.std.specs.List.{prefix_len}
use Rattle.nf_forms.specs.Properties.{Properties, is_starter, is_nonstarter}
use Rattle.nf_forms.specs.Runs.{has_starter, lead, trail, longest}

module _ (p : Properties) where
  pub has_starter-append : (w v : List ℕ) → has_starter p (w ++ v) ≡ (has_starter p w || has_starter p v)
  has_starter-append w v = list_any-append (is_starter p) w v

  pub lead-le-length : (w : List ℕ) → lead p w ≤ length w
  lead-le-length w = prefix_len-le-length (is_nonstarter p) w

  pub trail-le-length : (w : List ℕ) → trail p w ≤ length w
  trail-le-length w = suffix_len-le-length (is_nonstarter p) w

  pub lead-append : (w v : List ℕ) → lead p (w ++ v) ≡ (if has_starter p w then lead p w else length w + lead p v)
  lead-append [] v = sym (zero-add (lead p v))
  lead-append (c ∷ w) v = next (is_starter p c) (has_starter p w) _ _ (length w) _ (lead-append w v)
    where
      next : (b h : Bool) (n m l k : ℕ) → n ≡ (if h then m else l + k) → cond (not b) (1 + n) 0 ≡ (if b || h then cond (not b) (1 + m) 0 else suc l + k)
      next true h n m l k e = refl
      next false true n m l k e = ap (λ i. 1 + i) e
      next false false n m l k e = omega arith

  has_starter-reverse : (w : List ℕ) → has_starter p (reverse w) ≡ has_starter p w
  has_starter-reverse w = sym (list_any-IsPermutation (is_starter p) w (reverse w) (IsPermutation-reverse w))

  pub trail-append : (w v : List ℕ) → trail p (w ++ v) ≡ (if has_starter p v then trail p v else length v + trail p w)
  trail-append w v =
      ap (prefix_len (is_nonstarter p)) (reverse-append w v) ∙ lead-append (reverse v) (reverse w)
      ∙ ap (λ b. if b then trail p v else length (reverse v) + trail p w) (has_starter-reverse v)
      ∙ ap (λ n. if has_starter p v then trail p v else n + trail p w) (length-reverse v)

  -- a text of non-starters alone is one run
  pub lead-marks : (w : List ℕ) → has_starter p w ≡ false → lead p w ≡ length w
  lead-marks [] h = refl
  lead-marks (c ∷ w) h =
      let parts = or_parts (is_starter p c) (has_starter p w) h in
      let here : lead p (c ∷ w) ≡ 1 + lead p w = cond-true _ _ _ (ap not parts.0) in
      omega (arith, lead-marks w parts.1)

  pub trail-marks : (w : List ℕ) → has_starter p w ≡ false → trail p w ≡ length w
  trail-marks w h = lead-marks (reverse w) (has_starter-reverse w ∙ h) ∙ length-reverse w

  -- a starter ends the run, and a non-starter makes it longer by one
  pub trail-push : (w : List ℕ) (c : ℕ) → trail p (w ++ c ∷ []) ≡ (if is_starter p c then 0 else trail p w + 1)
  trail-push w c = trail-append w (c ∷ []) ∙ next (is_starter p c) (trail p w)
    where
      next : (b : Bool) (n : ℕ) → (if b || false then cond (not b) (1 + 0) 0 else 1 + n) ≡ (if b then 0 else n + 1)
      next true n = refl
      next false n = omega arith

  pub lead-le-longest : (w : List ℕ) → lead p w ≤ longest p w
  lead-le-longest [] = omega arith
  lead-le-longest (c ∷ w) = omega arith

  pub longest-append : (w v : List ℕ) → longest p (w ++ v) ≡ max (longest p w) (max (trail p w + lead p v) (longest p v))
  longest-append [] v = let h = lead-le-longest v in omega arith
  longest-append (c ∷ w) v =
      next (is_starter p c) (has_starter p w) (lead p w) (length w) (trail p w) (lead p v) (longest p w) (longest p v)
      (lead p (w ++ v)) (longest p (w ++ v)) (trail p (c ∷ w)) (lead-append w v) (trail-append (c ∷ []) w)
      (lead-marks w) (trail-marks w) (longest-append w v)
    where
      next : (b h : Bool) (lead_w len_w trail_w lead_v longest_w longest_v lead_wv longest_wv trail_cw : ℕ)
          → lead_wv ≡ (if h then lead_w else len_w + lead_v)
          → trail_cw ≡ (if h then trail_w else len_w + cond (not b) (1 + 0) 0)
          → (h ≡ false → lead_w ≡ len_w) → (h ≡ false → trail_w ≡ len_w)
          → longest_wv ≡ max longest_w (max (trail_w + lead_v) longest_v)
          → max (cond (not b) (1 + lead_wv) 0) longest_wv ≡ max (max (cond (not b) (1 + lead_w) 0) longest_w) (max (trail_cw + lead_v) longest_v)
      next true true a l t d e f g h i j k m n o = omega arith
      next true false a l t d e f g h i j k m n o = omega (arith, m refl, n refl)
      next false true a l t d e f g h i j k m n o = omega arith
      next false false a l t d e f g h i j k m n o = omega (arith, m refl, n refl)
