-- Reading after a text, and after bytes that were read before.
use Rattle.nf_utf8.proofs.Common.{◌≡◌, ℕ, suc, ◌+◌, ◌<◌, ◌≤◌, List, ◌++◌, length, take, IsUtf8, encode_utf8_all, chars, refl, sym, ap, ◌∙◌, arith, append_assoc, length-append, take-append-drop, take-append-add, drop-append-add, take-append-le, encodes-chars, scalars-chars, chars-append, nat_tests, chars-encodes, IsText, BeginsText, Bad, moved, text_len, text_of, rest_of, begun_len, ending_of}
use Rattle.nf_utf8.proofs.Texts.{BeginsText-IsUtf8, BeginsText-append}
use Rattle.nf_utf8.proofs.TextLen.{text_len-longest, text_len-is, text_len-after, length-front}
use Rattle.nf_utf8.proofs.BegunLen.{begun_len-longest, begun_len-is, begun_len-after, begins_until, ending_of-says}

-- ---- after a text

pub text_of-after : (xs ys : List ℕ) → IsUtf8 xs → text_of (xs ++ ys) ≡ chars xs ++ text_of ys
unfolding text_of
text_of-after xs ys u = rw (text_len-after xs ys u, take-append-add) (chars-append xs (take (text_len ys) ys) u)

pub rest_of-after : (xs ys : List ℕ) → IsUtf8 xs → rest_of (xs ++ ys) ≡ rest_of ys
unfolding rest_of
rest_of-after xs ys u = rw (text_len-after xs ys u, drop-append-add)

pub ending_of-after : (xs ys : List ℕ) → IsUtf8 xs → ending_of (xs ++ ys) ≡ moved (length xs) (ending_of ys)
unfolding ending_of
ending_of-after xs ys u = grind (arith, nat_tests, length-append xs ys, text_len-after xs ys u, begun_len-after xs ys u)

-- the same of a text's bytes
pub text_of-encodes : (text bytes : List ℕ) → IsText text → text_of (encode_utf8_all text ++ bytes) ≡ text ++ text_of bytes
text_of-encodes text bytes s = rw (chars-encodes text s) at (text_of-after (encode_utf8_all text) bytes (text, (s, refl)))

-- ---- the bytes in two

-- the well-formed front
abbrev pub front_of : List ℕ → List ℕ
front_of bytes = take (text_len bytes) bytes

pub front_of-IsUtf8 : (bytes : List ℕ) → IsUtf8 (front_of bytes)
front_of-IsUtf8 bytes = (text_len-longest bytes).holds

pub text_of-IsText : (bytes : List ℕ) → IsText (text_of bytes)
unfolding text_of
text_of-IsText bytes = scalars-chars (front_of bytes) (front_of-IsUtf8 bytes)

pub encodes-text_of : (bytes : List ℕ) → encode_utf8_all (text_of bytes) ≡ front_of bytes
unfolding text_of
encodes-text_of bytes = encodes-chars (front_of bytes) (front_of-IsUtf8 bytes)

pub length-encodes-text_of : (bytes : List ℕ) → length (encode_utf8_all (text_of bytes)) ≡ text_len bytes
length-encodes-text_of bytes = rw (encodes-text_of bytes) (length-front bytes)

pub text_of-split : (bytes : List ℕ) → bytes ≡ encode_utf8_all (text_of bytes) ++ rest_of bytes
unfolding rest_of
text_of-split bytes = rw (encodes-text_of bytes) (sym (take-append-drop (text_len bytes) bytes))

-- ---- after bytes that were read before, where `part` is what stood after their text

module _ {subpart : List ℕ} (bytes piece : List ℕ) (r : rest_of bytes ≡ subpart) where
  joined : front_of bytes ++ (subpart ++ piece) ≡ bytes ++ piece
  unfolding rest_of
  joined = sym (append_assoc (front_of bytes) subpart piece) ∙ ap (λ l. l ++ piece) (rw r at (take-append-drop (text_len bytes) bytes))

  pub text_on : text_of (bytes ++ piece) ≡ text_of bytes ++ text_of (subpart ++ piece)
  unfolding text_of
  text_on = rw joined at (text_of-after (front_of bytes) (subpart ++ piece) (front_of-IsUtf8 bytes))

  pub len_on : text_len (bytes ++ piece) ≡ text_len bytes + text_len (subpart ++ piece)
  len_on = rw (joined, length-front) at (text_len-after (front_of bytes) (subpart ++ piece) (front_of-IsUtf8 bytes))

  pub rest_on : rest_of (bytes ++ piece) ≡ rest_of (subpart ++ piece)
  rest_on = rw joined at (rest_of-after (front_of bytes) (subpart ++ piece) (front_of-IsUtf8 bytes))

  pub ending_on : ending_of (bytes ++ piece) ≡ moved (text_len bytes) (ending_of (subpart ++ piece))
  ending_on = rw (joined, length-front) at (ending_of-after (front_of bytes) (subpart ++ piece) (front_of-IsUtf8 bytes))

  pub begins_on : BeginsText (subpart ++ piece) → BeginsText (bytes ++ piece)
  begins_on b = rw joined at (BeginsText-append (front_of bytes) (subpart ++ piece) (front_of-IsUtf8 bytes) b)

-- ---- after a bad byte

module _ (bytes : List ℕ) (begun : begun_len bytes < length bytes) (piece : List ℕ) where
  begun_same : begun_len (bytes ++ piece) ≡ begun_len bytes
  begun_same =
      let g : ℕ = begun_len bytes in
      let h = begun_len-longest bytes in
      begun_len-is (begins_until (bytes ++ piece) g (omega (arith, begun, length-append bytes piece)) (rw (take-append-le g bytes piece (omega arith)) h.holds)
      (λ b. let k = h.longest (suc g) begun (rw (take-append-le (suc g) bytes piece begun) at b) in omega arith))

  pub text_same : text_len (bytes ++ piece) ≡ text_len bytes
  text_same =
      let h = text_len-longest bytes in
      text_len-is (record {
        within = omega (arith, h.within, length-append bytes piece);
        holds = rw (take-append-le (text_len bytes) bytes piece h.within) h.holds;
        longest = λ m le u.
            let k = (begun_len-longest (bytes ++ piece)).longest m le (BeginsText-IsUtf8 (take m (bytes ++ piece)) u) in
            let fits : m ≤ length bytes = omega (arith, begun_same, begun) in
            h.longest m fits (rw (take-append-le m bytes piece fits) at u);
      })

-- the lengths that such an ending tells
pub ill_formed : (bytes : List ℕ) (at start : ℕ) → ending_of bytes ≡ Bad at start → (begun_len bytes < length bytes) × (at ≡ begun_len bytes) × (start ≡ text_len bytes)
ill_formed bytes at start e = rw e at (ending_of-says bytes)

module _ (bytes piece : List ℕ) (at start : ℕ) (e : ending_of bytes ≡ Bad at start) where
  short : begun_len bytes < length bytes
  short = (ill_formed bytes at start e).0

  pub text_of-bad : text_of (bytes ++ piece) ≡ text_of bytes
  unfolding text_of
  text_of-bad = rw (text_same bytes short piece, take-append-le (text_len bytes) bytes piece (text_len-longest bytes).within)

  pub ending_of-bad : ending_of (bytes ++ piece) ≡ Bad at start
  unfolding ending_of
  ending_of-bad = grind (arith, nat_tests, short, begun_same bytes short piece, text_same bytes short piece, length-append bytes piece)
