-- Bytes and the texts that they spell.
use Rattle.nf_normalized.proofs.Common.{◌≡◌, nat_tests, common_steps, list_all-append, ℕ, false, List, [], ◌∷◌, ◌++◌, length, take, drop, refl, sym, ap, ◌∙◌, arith, append_assoc, append-nil, length-append, encode_utf8_all, and_parts, take_at, length-take, take-append-drop, encodes-append, ucd, Form, ChangesOnce, text_of, rest_of, IsText, SplitsBytes, ReadsBack, ReadsPieces, common, goes_on_with}
use Rattle.nf_filter.proofs.ReadingLemmas.{text_of-none}
use Rattle.nf_filter.proofs.CommonLemmas.{common-le-left, take-common, common-after, common-front}

-- what is known of bytes and of the forms
pub record Known : Type 0 where
  pub split : SplitsBytes
  pub back : ReadsBack
  pub pieces : ReadsPieces
  pub once : (f : Form) → ChangesOnce f ucd

-- ---- two texts that go on otherwise

-- two texts begin with `same`, and have no more in common
pub record Shares (x s same : List ℕ) : Type 0 where
  pub count : common x s ≡ length same
  pub front : take (length same) x ≡ same

-- and the second, s, is no front of the first
pub record Departs (x s same : List ℕ) : Type 0 where
  pub shares : Shares x s same
  pub other : ¬ (s ≡ take (length s) x)

-- what stands at the front of two lists that go on otherwise after m stands in m
in_both : (e m i p q : List ℕ) (b : ℕ) (t : List ℕ) → goes_on_with b i ≡ false → m ++ i ≡ e ++ p → m ++ b ∷ t ≡ e ++ q → (more : List ℕ) × (m ≡ e ++ more)
in_both [] m i p q b t differ first second = (m, refl)
in_both (d ∷ e) [] i p q b t differ first second = grind (arith, nat_tests)
in_both (d ∷ e) (k ∷ m) i p q b t differ first second = grind (arith, in_both e m i p q b t)

pub scalars_front : (x y : List ℕ) → IsText (x ++ y) → IsText x
scalars_front x y scalars = (and_parts _ _ (sym (list_all-append _ x y) ∙ scalars)).0

pub scalars_take : (n : ℕ) (x : List ℕ) → IsText x → IsText (take n x)
scalars_take n x scalars = scalars_front (take n x) (drop n x) (rw take-append-drop scalars)

module _ (known : Known) where
  pub text_of-encodes : (x : List ℕ) → IsText x → text_of (encode_utf8_all x) ≡ x
  text_of-encodes x scalars = grind (arith, known.back.text x [] scalars, text_of-none, append-nil)

  -- of bytes that go on otherwise than a text does no more than their own text is in common
  pub departs : (m i : List ℕ) (b : ℕ) (t : List ℕ) → goes_on_with b i ≡ false → (s : List ℕ) → IsText s → encode_utf8_all s ≡ m ++ b ∷ t → Departs (text_of (m ++ i)) s (text_of m)
  departs m i b t differ s scalars is =
      let x = text_of (m ++ i) in
      let n = common x s in
      let x_is = known.pieces.text m i in
      let s_is = sym (text_of-encodes s scalars) ∙ ap text_of is ∙ known.pieces.text m (b ∷ t) in
      let inside = in_both (encode_utf8_all (take n x)) m i (encode_utf8_all (drop n x) ++ rest_of (m ++ i)) (encode_utf8_all (drop n s)) b t differ
      (grind (arith, known.split.split (m ++ i), take-append-drop n x, encodes-append, append_assoc)) (grind (arith, is, take-append-drop n s, encodes-append, take-common x s)) in
      let text = known.back.text (take n x) inside.0 (scalars_take n x (known.split.scalars (m ++ i))) in
      let count : n ≡ length (text_of m) = grind (arith, text, inside.1, length-append, length-take, common-le-left x s, x_is, s_is, common-after) in
      record {
        shares = grind (arith, count, x_is, take_at);
        other = λ same.
            grind (arith, common_steps, same, take-append-drop (length s) x, common-front, count, s_is, ap length is, ap length (known.split.split m), length-append, encodes-append);
      }
