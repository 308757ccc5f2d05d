-- What a byte tells of the bytes that begin a character, said of all the bytes that a decoder stands after.
use Rattle.nf_utf8.proofs.Common.{◌≡◌, ℕ, suc, ◌+◌, ◌<◌, true, ◌&&◌, List, [], ◌∷◌, ◌++◌, length, take, IsUtf8, encode_utf8, chars, refl, ap, ◌∙◌, arith, append-nil, length-drop, take_all, take_at, take-take, length-take-le, IsScalar, nat_tests, length_push, same_from_push, drop_all, IsUtf8-encode, utf8_valid_len-IsUtf8, Step, More, Char, BadByte, BeginsText, Bad, text_len, text_of, rest_of, begun_len, ending_of, StandsAfter, Answers, bytes_after, ending_at, IsSubpart}
use Rattle.std.proofs.str.Decodes.{chars-nil, chars-encodes}
use Rattle.nf_utf8.specs.Tells.{Tells, subpart_after}
use Rattle.nf_utf8.proofs.Texts.{BeginsText-IsUtf8}
use Rattle.nf_utf8.proofs.TextLen.{text_len-longest, text_len-no_char}
use Rattle.nf_utf8.proofs.BegunLen.{begun_len-is, begun_all, begins_until, ending_of-ill_formed}
use Rattle.nf_utf8.proofs.ReadingLemmas.{text_on, rest_on, ending_on, begins_on}
use Rattle.nf_utf8.proofs.Sequences.{BeginsText-subpart, subpart_no_char}

-- ---- bytes with no text, and bytes that are one

pub text_of-none : (bytes : List ℕ) → text_len bytes ≡ 0 → text_of bytes ≡ []
unfolding text_of
text_of-none bytes e = rw e chars-nil

pub rest_of-none : (bytes : List ℕ) → text_len bytes ≡ 0 → rest_of bytes ≡ bytes
unfolding rest_of
rest_of-none bytes e = rw e

pub text_of-whole : (bytes : List ℕ) → IsUtf8 bytes → text_of bytes ≡ chars bytes
unfolding text_of
text_of-whole bytes u = rw (utf8_valid_len-IsUtf8 bytes u, take_all (length bytes) bytes (omega arith))

rest_of-whole : (bytes : List ℕ) → IsUtf8 bytes → rest_of bytes ≡ []
unfolding rest_of
rest_of-whole bytes u = rw (utf8_valid_len-IsUtf8 bytes u) (drop_all (length bytes) bytes (omega arith))

pub chars_of_one : (c : ℕ) → IsScalar c → chars (encode_utf8 c) ≡ c ∷ []
chars_of_one c s = rw append-nil at (chars-encodes (c ∷ []) (ap (λ b. b && true) s))

-- ---- where a decoder stands

pub stands_alone : (subpart : List ℕ) → IsSubpart subpart → StandsAfter subpart subpart
stands_alone subpart h = record { rest = rest_of-none subpart (text_len-no_char subpart (subpart_no_char subpart h)); begins = BeginsText-subpart subpart h }

pub stands_new : StandsAfter [] []
stands_new = stands_alone [] tt

pub stands_on : {subpart bytes left : List ℕ} (piece : List ℕ) → StandsAfter subpart bytes → StandsAfter left (subpart ++ piece) → StandsAfter left (bytes ++ piece)
stands_on piece s t = record { rest = rest_on _ piece s.rest ∙ t.rest; begins = begins_on _ piece s.rest t.begins }

pub held_len : {subpart bytes : List ℕ} → StandsAfter subpart bytes → text_len bytes + length subpart ≡ length bytes
unfolding rest_of
held_len {bytes = bytes} s = omega (arith, (text_len-longest bytes).within, length-drop (text_len bytes) bytes, ap length s.rest)

pub ending_of-standing : {subpart bytes : List ℕ} → StandsAfter subpart bytes → ending_of bytes ≡ ending_at (length bytes) (length subpart)
unfolding ending_of
ending_of-standing {bytes = bytes} s = grind (arith, nat_tests, held_len s, begun_all bytes s.begins)

-- ---- a byte that breaks off a character

-- those before the byte at n begin a character, and with it they begin no text
pub ill_formed_at : (bytes : List ℕ) (n : ℕ) → n < length bytes → IsSubpart (take n bytes) → ¬ BeginsText (take (suc n) bytes) → (text_len bytes ≡ 0) × (ending_of bytes ≡ Bad n 0)
ill_formed_at bytes n short subpart none =
    let front : List ℕ = take n bytes in
    let begun : begun_len bytes ≡ n = begun_len-is (begins_until bytes n short (BeginsText-subpart front subpart) none) in
    let u : IsUtf8 (take (text_len bytes) front) = rw (take-take (text_len bytes) n bytes (omega (arith, begun))) (text_len-longest bytes).holds in
    let least = (text_len-longest front).longest (text_len bytes) (omega (arith, begun, length-take-le n bytes (omega arith))) u in
    let text : text_len bytes ≡ 0 = omega (arith, least, text_len-no_char front (subpart_no_char front subpart)) in
    (text, rw (ending_of-ill_formed bytes (omega (arith, begun)), begun, text))

-- ---- one byte more

module _ {subpart bytes : List ℕ} (byte : ℕ) (s : StandsAfter subpart bytes) where
  pub tells-stands : IsSubpart subpart → (step : Step) → Tells subpart byte step → StandsAfter (subpart_after subpart byte step) (bytes_after bytes byte step)
  tells-stands h More p = stands_on (byte ∷ []) s (stands_alone _ p)
  tells-stands h (Char c) p =
      let u : IsUtf8 (subpart ++ byte ∷ []) = rw p.1 (IsUtf8-encode c p.0) in
      stands_on (byte ∷ []) s (record { rest = rest_of-whole _ u; begins = BeginsText-IsUtf8 _ u })
  tells-stands h (BadByte back) p = stands_new

  text_more : text_of (bytes ++ byte ∷ []) ≡ text_of bytes ++ text_of (subpart ++ byte ∷ [])
  text_more = text_on bytes (byte ∷ []) s.rest

  pub tells-answers : IsSubpart subpart → (step : Step) → Tells subpart byte step → Answers bytes byte step
  tells-answers h More p =
      let q : List ℕ = subpart ++ byte ∷ [] in (
        rw (text_more, text_of-none q (text_len-no_char q (subpart_no_char q p))) (append-nil (text_of bytes)),
        grind (arith, nat_tests, ending_of-standing (tells-stands h More p), held_len s, length_push bytes byte, length_push subpart byte),
      )
  tells-answers h (Char c) p = (
    rw (text_more, p.1, text_of-whole (encode_utf8 c) (IsUtf8-encode c p.0)) (ap (λ l. text_of bytes ++ l) (chars_of_one c p.0)),
    ending_of-standing (tells-stands h (Char c) p),
  )
  tells-answers h (BadByte back) p =
      let size = length_push subpart byte in
      let held : IsSubpart (take (length subpart) (subpart ++ byte ∷ [])) = rw (take_at subpart (byte ∷ []) (length subpart) refl) h in
      let b = ill_formed_at (subpart ++ byte ∷ []) (length subpart) (omega (arith, size)) held (λ b. p.1 (rw (take_all (suc (length subpart)) (subpart ++ byte ∷ []) (omega (arith, size))) at b)) in
      let none = rw (text_of-none (subpart ++ byte ∷ []) b.0, append-nil) at text_more in
      grind (arith, none, ending_on bytes (byte ∷ []) s.rest, b.1, held_len s)

-- ---- one answer alone fits

pub answers_same : (bytes : List ℕ) (byte : ℕ) (a b : Step) → Answers bytes byte a → Answers bytes byte b → a ≡ b
answers_same bytes byte More More p q = refl
answers_same bytes byte (Char c) (Char d) p q = grind (arith, same_from_push (text_of bytes) (text_of bytes) c d)
answers_same bytes byte (BadByte n) (BadByte m) p q = grind arith
answers_same bytes byte _ _ p q = grind arith
