-- Where a form changes a text.
use Rattle.nf_normalized.proofs.Common.{common_steps, ◌≡◌, ◌↔◌, ℕ, ◌<◌, ◌≤◌, List, [], ◌++◌, length, take, drop, ap, ◌∙◌, arith, Some, IsTrue, normal_form, append_assoc, append-nil, bytes_eq-Decides, take-length, length-append, take_at, take_all, take-append-le, take-append-drop, Form, decomposed, stream_safe, safe_form, front, back, ucd, front-append-back, IsSoundText, decomposed-append, Place, is_in_format, settled, SettledOnlyGrows, common, change_at, settled_change_at}
use Rattle.nf_filter.proofs.CommonLemmas.{common-le-right, take-common, common-front, common-within}

-- ---- a settled place stays

-- a text that its own form begins with is its own form
module _ (sound : (x : List ℕ) → IsSoundText ucd x) (safe : (f : Form) (x : List ℕ) → stream_safe ucd (safe_form f ucd x) ≡ safe_form f ucd x)
    (fronts : (x : List ℕ) (n : ℕ) → IsTrue (is_in_format ucd x) → IsTrue (is_in_format ucd (take n x)))
    (unchanged : (x : List ℕ) → IsSoundText ucd x → (stream_safe ucd x ≡ x) ↔ IsTrue (is_in_format ucd x))
    (f : Form) (lengths : (x : List ℕ) → length (decomposed f ucd (normal_form f ucd x)) ≡ length (decomposed f ucd x))
    (some : (x : List ℕ) → length x ≤ length (decomposed f ucd x)) where
  goes_on : (x rest : List ℕ) → front ucd (safe_form f ucd x) ≡ x ++ rest → rest ≡ []
  unfolding safe_form
  goes_on x rest e =
      let form = safe_form f ucd x in
      let front : take (length x) form ≡ x = grind (arith, front-append-back ucd form, e, append_assoc, take_at) in
      let stays : stream_safe ucd x ≡ x = grind (arith, unchanged x (sound x), unchanged form (sound form), safe f x, fronts form (length x), front) in
      grind (arith, common_steps, some rest, lengths (stream_safe ucd x), stays, front-append-back ucd form, e, decomposed-append, length-append)

  pub place_stays : SettledOnlyGrows → (base : ℕ) (x y : List ℕ) (place : Place) → settled_change_at base x (settled f ucd x) ≡ Some place → change_at base f (x ++ y) ≡ Some place
  unfolding change_at settled
  place_stays grows base x y place settled_is =
      let m = front ucd (safe_form f ucd x) in
      let whole = safe_form f ucd (x ++ y) in
      let n = common x m in
      let other : ¬ (m ≡ take (length m) x) = λ same. grind (arith, bytes_eq-Decides m (take (length m) x)) in
      let in_m : n < length m = grind (arith, common-le-right, take-common, take_all, take-length, other) in
      let in_x : n < length x = grind (arith, goes_on x (drop n m), other, take-append-drop n m, take-common x m, take_all n x, append-nil, take-length) in
      -- what is settled stands at the front of the whole form
      let whole_is : whole ≡ m ++ ((grows f ucd x y).0 ++ back ucd whole) = grind (arith, front-append-back ucd whole, grows f ucd x y, append_assoc) in
      let long : common (x ++ y) whole ≡ n = ap (common (x ++ y)) whole_is ∙ common-within x m y _ in_x in_m in
      let changed : ¬ (whole ≡ x ++ y) = λ same. absurd (grind (arith, common-front (x ++ y) [], append-nil, length-append)) in
      grind (arith, bytes_eq-Decides, other, changed, long, take-append-le n x y)
