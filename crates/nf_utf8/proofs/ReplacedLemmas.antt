-- Bytes read with one U+FFFD for each maximal subpart of an ill-formed sequence.
use Rattle.nf_utf8.proofs.Common.{◌≡◌, ℕ, zero, suc, ◌+◌, ◌-◌, ◌<◌, ◌≤◌, List, [], ◌∷◌, ◌++◌, map, length, drop, encode_utf8, encode_utf8_all, refl, ap, ⊎_elim, arith, append-nil, length-append, length-drop, order, nat_tests, BeginsText, Bad, text_len, text_of, begun_len, ending_of, Decoded, replacement, decoded_text, subpart_end, decoded_after_text, decoded_within, decoded_of, bytes_in}
use Rattle.nf_utf8.proofs.TextLen.{text_len-longest}
use Rattle.nf_utf8.proofs.BegunLen.{begun_len-longest, begun_all, ending_of-full, ending_of-begun, ending_of-ill_formed}
use Rattle.nf_utf8.proofs.ReadingLemmas.{length-encodes-text_of, ill_formed, text_of-bad, ending_of-bad}

-- ---- parts alone

pub bytes_in-append : (a b : List Decoded) → bytes_in (a ++ b) ≡ bytes_in a + bytes_in b
bytes_in-append [] b = omega arith
bytes_in-append (decoded ∷ a) b = omega (arith, bytes_in-append a b)

pub bytes_in-own : (x : List ℕ) → bytes_in (decoded_text x) ≡ length (encode_utf8_all x)
bytes_in-own [] = refl
bytes_in-own (c ∷ x) = omega (arith, bytes_in-own x, length-append (encode_utf8 c) (encode_utf8_all x))

pub chars-own : (x : List ℕ) → map (λ decoded. decoded.char) (decoded_text x) ≡ x
chars-own [] = refl
chars-own (c ∷ x) = rw (chars-own x)

-- ---- what a bad byte breaks off

pub subpart_end_is : (bytes : List ℕ) (at start : ℕ) → ending_of bytes ≡ Bad at start → (start < subpart_end at start) × (subpart_end at start ≤ length bytes)
subpart_end_is bytes at start e = grind (arith, nat_tests, ill_formed bytes at start e)

-- the part that it breaks off
abbrev pub bad_subpart : (at start : ℕ) → Decoded
bad_subpart at start = record { char = replacement; len = subpart_end at start - start }

-- a fact of all bytes, where it holds of what a bad byte leaves
module _ (P : List ℕ → Type 0) (at_begun : (bytes : List ℕ) → begun_len bytes ≡ length bytes → P bytes)
    (at_bad : (bytes : List ℕ) (at start : ℕ) → ending_of bytes ≡ Bad at start → P (drop (subpart_end at start) bytes) → P bytes) where
  by_length : (k : ℕ) (bytes : List ℕ) → length bytes < k → P bytes
  by_length zero bytes few = absurd (omega arith)
  by_length (suc k) bytes few = ⊎_elim
      (λ short.
      let e = ending_of-ill_formed bytes short in
      at_bad bytes _ _ e (by_length k _ (omega (arith, subpart_end_is bytes _ _ e, length-drop (subpart_end (begun_len bytes) (text_len bytes)) bytes))))
      (λ all. at_begun bytes (omega (arith, all, (begun_len-longest bytes).within)))
      (order (begun_len bytes) (length bytes))

  pub by_subparts : (bytes : List ℕ) → P bytes
  by_subparts bytes = by_length (suc (length bytes)) bytes (omega arith)

-- ---- the parts of bytes, in which any bound above the length gives the same

decoded-begun : (k : ℕ) (bytes : List ℕ) → begun_len bytes ≡ length bytes → decoded_within (suc k) bytes ≡ decoded_text (text_of bytes)
decoded-begun k bytes all = ⊎_elim
    (λ cut. rw (ending_of-begun bytes cut all) (append-nil (decoded_text (text_of bytes))))
    (λ whole. rw (ending_of-full bytes (omega (arith, whole, (text_len-longest bytes).within))) (append-nil (decoded_text (text_of bytes))))
    (order (text_len bytes) (length bytes))

decoded-ill_formed : (k : ℕ) (bytes : List ℕ) {at start : ℕ} → ending_of bytes ≡ Bad at start
    → decoded_within (suc k) bytes ≡ decoded_text (text_of bytes) ++ bad_subpart at start ∷ decoded_within k (drop (subpart_end at start) bytes)
decoded-ill_formed k bytes e = ap (λ x. decoded_text (text_of bytes) ++ decoded_after_text x (λ n. decoded_within k (drop n bytes))) e

pub decoded_of-all : (bytes : List ℕ) → begun_len bytes ≡ length bytes → decoded_of bytes ≡ decoded_text (text_of bytes)
unfolding decoded_of
decoded_of-all bytes all = decoded-begun (length bytes) bytes all

within_any : (k j : ℕ) (bytes : List ℕ) → length bytes < k → length bytes < j → decoded_within k bytes ≡ decoded_within j bytes
within_any zero j bytes p q = absurd (omega arith)
within_any (suc k) zero bytes p q = absurd (omega arith)
within_any (suc k) (suc j) bytes p q = ⊎_elim
    (λ short.
    let e = ending_of-ill_formed bytes short in
    let stop : ℕ = subpart_end (begun_len bytes) (text_len bytes) in
    let less : length (drop stop bytes) < length bytes = omega (arith, subpart_end_is bytes _ _ e, length-drop stop bytes) in
    rw (decoded-ill_formed k bytes e, decoded-ill_formed j bytes e, within_any k j (drop stop bytes) (omega arith) (omega arith)))
    (λ past. let all : begun_len bytes ≡ length bytes = omega (arith, past, (begun_len-longest bytes).within) in rw (decoded-begun k bytes all, decoded-begun j bytes all))
    (order (begun_len bytes) (length bytes))

pub decoded_of-begun : (bytes : List ℕ) → BeginsText bytes → decoded_of bytes ≡ decoded_text (text_of bytes)
decoded_of-begun bytes b = decoded_of-all bytes (begun_all bytes b)

pub decoded_of-ill_formed : (bytes : List ℕ) (at start : ℕ) → ending_of bytes ≡ Bad at start
    → decoded_of bytes ≡ decoded_text (text_of bytes) ++ bad_subpart at start ∷ decoded_of (drop (subpart_end at start) bytes)
unfolding decoded_of
decoded_of-ill_formed bytes at start e =
    let rest : List ℕ = drop (subpart_end at start) bytes in
    rw (decoded-ill_formed (length bytes) bytes e, within_any (length bytes) (suc (length rest)) rest (omega (arith, subpart_end_is bytes at start e, length-drop (subpart_end at start) bytes)) (omega arith))

pub decoded_of-bad : (bytes more : List ℕ) (at start : ℕ) → ending_of bytes ≡ Bad at start
    → decoded_of (bytes ++ more) ≡ decoded_text (text_of bytes) ++ bad_subpart at start ∷ decoded_of (drop (subpart_end at start) (bytes ++ more))
decoded_of-bad bytes more at start e = rw (decoded_of-ill_formed (bytes ++ more) at start (ending_of-bad bytes more at start e), text_of-bad bytes more at start e)

-- ---- how many bytes they are of

pub bytes_in-all : (bytes : List ℕ) → begun_len bytes ≡ length bytes → bytes_in (decoded_of bytes) ≡ text_len bytes
bytes_in-all bytes all = rw (decoded_of-all bytes all, bytes_in-own) (length-encodes-text_of bytes)

pub bytes_in-ill_formed : (bytes : List ℕ) {at start : ℕ} → ending_of bytes ≡ Bad at start → bytes_in (decoded_of bytes) ≡ subpart_end at start + bytes_in (decoded_of (drop (subpart_end at start) bytes))
bytes_in-ill_formed bytes {at} {start} e =
    rw (decoded_of-ill_formed bytes at start e, bytes_in-append, bytes_in-own) (omega (arith, length-encodes-text_of bytes, ill_formed bytes at start e, subpart_end_is bytes at start e))

pub decoded_of-within : (bytes : List ℕ) → bytes_in (decoded_of bytes) ≤ length bytes
decoded_of-within = by_subparts (λ bytes. bytes_in (decoded_of bytes) ≤ length bytes)
    (λ bytes all. omega (arith, bytes_in-all bytes all, (text_len-longest bytes).within))
    (λ bytes at start e h. omega (arith, bytes_in-ill_formed bytes e, subpart_end_is bytes at start e, length-drop (subpart_end at start) bytes, h))
