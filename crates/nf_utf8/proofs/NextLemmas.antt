-- The next text of a piece.
use Rattle.nf_utf8.proofs.Common.{◌≡◌, ℕ, suc, ◌+◌, ◌==◌, ◌<◌, ◌≤◌, Bool, true, List, [], ◌∷◌, ◌++◌, length, take, drop, inl, inr, refl, ap, arith, nat_tests, append_assoc, append-nil, length-append, length-take-le, take-append-drop, take-append-add, drop-append-add, drop_all, drop-drop, drop-append-le, encode_utf8, chars, chars-nil, IsUtf8, IsUtf8-encode, width_is, IsScalar, IsBad, text_len, ending_of, replacement, replacement_bytes, subpart_end, IsFront, BadFront, IsLeft, IsStretch, ReadsNext}
use Rattle.std.specs.Prelude.{if◌then◌else◌}
use Rattle.std.proofs.Math.Nat.{zero-add}
use Rattle.nf_utf8.proofs.LeftLemmas.{IsLeft-all, IsLeft-more, IsLeft-join, IsLeft-text, IsLeft-bad}
use Rattle.nf_utf8.proofs.ReplacingLemmas.{replacement-chars}
use Rattle.nf_utf8.proofs.StandingLemmas.{text_of-none, chars_of_one, ill_formed_at}

-- well-formed text
pub reads-text : (r : Bool) (piece text : List ℕ) (len : ℕ) → IsUtf8 text → text ≡ take len piece → len ≤ length piece → 0 < len → ReadsNext r [] piece text len []
reads-text r piece text len u is within some =
    let size : length text ≡ len = rw is (length-take-le len piece within) in
    let whole : text ++ drop len piece ≡ piece = rw is (take-append-drop len piece) in
    record {
      n = len;
      left = rw (size, whole) at (IsLeft-text text u r (drop len piece));
      within = within;
      less = λ _. omega arith;
      alone = inl refl;
    }

-- the bytes end inside a character
pub reads-begun : (r : Bool) (held piece : List ℕ) → ReadsNext r held piece [] (length piece) (held ++ piece)
reads-begun r held piece = record {
  n = 0;
  left = rw (chars-nil, drop_all (length piece) piece (omega arith), append-nil) (IsLeft-all r (held ++ piece));
  within = omega arith;
  less = λ short. omega arith;
  alone = inr (rw chars-nil (omega arith));
}

module _ (held piece : List ℕ) where
  -- the character that is completed
  module _ (c len : ℕ) (scalar : IsScalar c) (is : held ++ take len piece ≡ encode_utf8 c) where
    pub one-left : (r : Bool) → IsLeft r (held ++ piece) (c ∷ []) (length (encode_utf8 c)) (drop len piece)
    one-left r =
        let whole : encode_utf8 c ++ drop len piece ≡ held ++ piece = rw (← is, append_assoc, take-append-drop) refl in
        rw (chars_of_one c scalar, whole) at (IsLeft-text (encode_utf8 c) (IsUtf8-encode c scalar) r (drop len piece))

    pub reads-one : (r : Bool) (text : List ℕ) → text ≡ encode_utf8 c → len ≤ length piece → ReadsNext r held piece text len []
    reads-one r text one within =
        let x : chars text ≡ c ∷ [] = rw one (chars_of_one c scalar) in
        record {
          n = length (encode_utf8 c);
          left = rw x (one-left r);
          within = within;
          less = λ _. omega (arith, width_is c, ap length is, length-append held (take len piece), length-take-le len piece within);
          alone = inr (rw x (omega arith));
        }

  -- a bad byte
  module _ (at back : ℕ) (is : IsFront held piece (BadFront at back)) where
    pub bad : (text_len (held ++ piece) ≡ 0) × (ending_of (held ++ piece) ≡ IsBad (length held + at) 0)
    bad =
        let next : suc (length held + at) ≡ length held + (at + 1) = omega arith in
        ill_formed_at (held ++ piece) (length held + at) (omega (arith, is.0, length-append held piece)) (rw take-append-add is.1) (λ b. is.2 (rw (next, take-append-add) at b))

    module _ (len : ℕ) (is_len : len ≡ (if back == 0 then at + 1 else at)) where
      end : subpart_end (length held + at) 0 ≡ length held + len
      end = grind (arith, nat_tests, is.3)

      pub bad-left : IsLeft true (held ++ piece) (replacement ∷ []) (length held + len) (drop len piece)
      bad-left = rw (text_of-none (held ++ piece) bad.0, end, drop-append-add) at (IsLeft-bad bad.1)

      pub bad-some : (0 < length held + len) × (len ≤ length piece)
      bad-some = grind (arith, nat_tests, is.0, is.3)

      pub reads-bad : ReadsNext true held piece replacement_bytes len []
      reads-bad = record {
        n = length held + len;
        left = rw replacement-chars bad-left;
        within = bad-some.1;
        less = λ _. bad-some.0;
        alone = inr (rw replacement-chars (omega arith));
      }

-- a text, and the ill-formed part that the bytes after it begin with
pub part_is : (bytes : List ℕ) (text k at back len : ℕ) → IsUtf8 (take text bytes) → text ≤ length bytes → IsFront [] (take k (drop text bytes)) (BadFront at back) → len ≡ (if back == 0 then at + 1 else at)
    → IsStretch bytes (record { text = text; len = text + len })
part_is bytes text k at back len u within is is_len =
    let rest : List ℕ = drop text bytes in
    let piece : List ℕ = take k rest in
    let some = bad-some [] piece at back is len is_len in
    let front = rw (take-append-drop text bytes, length-take-le text bytes within) at (IsLeft-text (take text bytes) u true rest) in
    let part = rw (← drop-append-le len piece (drop k rest) some.1, take-append-drop k rest, zero-add) at (IsLeft-more (drop k rest) (bad-left [] piece at back is len is_len)) in
    record { within = within; utf8 = u; part = omega (arith, some.0); front = rw drop-drop at (IsLeft-join front part) }
