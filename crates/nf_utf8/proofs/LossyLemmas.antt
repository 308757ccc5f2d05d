-- The text with U+FFFD for each maximal subpart of an ill-formed sequence, and std's.
use Rattle.nf_utf8.proofs.Common.{◌≡◌, ℕ, ◌+◌, ◌<◌, ◌≤◌, ◌==◌, cond, List, [], ◌∷◌, ◌++◌, length, take, drop, encode_utf8_all, ⊎_elim, refl, sym, arith, append-nil, append_assoc, length-drop, take_all, take-append-drop, utf8_lossy, utf8_invalid_len, replacement_bytes, order, scalars-append, three, utf8_error_len_some, utf8_invalid_len_pos, ne_eqb, nat_tests, map-append, drop_all, encodes-append, utf8_lossy-IsUtf8, utf8_lossy_step, utf8_lossy_empty, IsText, Bad, text_len, text_of, subpart_len, begun_len, ending_of, replacement, subpart_end, replaced, begun_at_end, replaced_whole}
use Rattle.nf_utf8.proofs.BegunLen.{begun_few}
use Rattle.nf_utf8.proofs.ReadingLemmas.{text_same, text_of-IsText, encodes-text_of, front_of, front_of-IsUtf8, ill_formed}
use Rattle.nf_utf8.proofs.ReplacedLemmas.{chars-own, by_subparts, decoded_of-all, decoded_of-ill_formed, bytes_in-all, bytes_in-ill_formed}

-- ---- how many bytes begin a character

-- where more than three bytes stand after the text, it ends there whatever follows
pub text_len-front : (bytes : List ℕ) (n : ℕ) → text_len (take n bytes) + 3 < length (take n bytes) → text_len bytes ≡ text_len (take n bytes)
text_len-front bytes n far = rw take-append-drop at (text_same (take n bytes) (omega (arith, far, begun_few (take n bytes))) (drop n bytes))

-- std's count of them is this crate's, where any do
invalid_begun : (rest : List ℕ) → 0 < subpart_len rest → utf8_invalid_len rest ≡ subpart_len rest
invalid_begun rest some = grind (arith, nat_tests)

-- the bytes after the text
abbrev pub rest_at : List ℕ → List ℕ
rest_at bytes = drop (text_len bytes) bytes

pub ill_formed_invalid : (bytes : List ℕ) {at start : ℕ} → ending_of bytes ≡ Bad at start → text_len bytes + utf8_invalid_len (rest_at bytes) ≡ subpart_end at start
ill_formed_invalid bytes {at} {start} e =
    grind (arith, nat_tests, ill_formed bytes at start e, utf8_error_len_some (rest_at bytes), utf8_invalid_len_pos (rest_at bytes), invalid_begun (rest_at bytes), length-drop (text_len bytes) bytes)

pub few_at_end : (bytes : List ℕ) → begun_at_end bytes ≤ 3
few_at_end = by_subparts (λ bytes. begun_at_end bytes ≤ 3)
    (λ bytes all. omega (arith, bytes_in-all bytes all, all, begun_few bytes))
    (λ bytes at start e h. omega (arith, bytes_in-ill_formed bytes e, length-drop (subpart_end at start) bytes, h))

-- ---- the text, by the ending

replaced-all : (bytes : List ℕ) → begun_len bytes ≡ length bytes → replaced bytes ≡ text_of bytes
unfolding replaced
replaced-all bytes all = rw (decoded_of-all bytes all) (chars-own (text_of bytes))

replaced-ill_formed : (bytes : List ℕ) {at start : ℕ} → ending_of bytes ≡ Bad at start → replaced bytes ≡ text_of bytes ++ replacement ∷ replaced (drop (subpart_end at start) bytes)
unfolding replaced
replaced-ill_formed bytes {at} {start} e = rw (decoded_of-ill_formed bytes at start e, map-append, chars-own)

pub replaced-IsText : (bytes : List ℕ) → IsText (replaced bytes)
replaced-IsText = by_subparts (λ bytes. IsText (replaced bytes))
    (λ bytes all. rw (replaced-all bytes all) (text_of-IsText bytes))
    (λ bytes at start e h. rw (replaced-ill_formed bytes e) (scalars-append (text_of bytes) (replacement ∷ replaced (drop (subpart_end at start) bytes)) (text_of-IsText bytes) h))

-- ---- its bytes, where nothing follows

abbrev tail : ℕ → List ℕ
tail begun = cond (begun == 0) [] (replacement ∷ [])

whole_is : (bytes text : List ℕ) (begun : ℕ) → replaced bytes ≡ text → begun_at_end bytes ≡ begun → replaced_whole bytes ≡ text ++ tail begun
unfolding replaced_whole
whole_is bytes text begun p q = (λ i. p i ++ tail (q i))

-- U+FFFD as text
pub encodes_replacement : encode_utf8_all (replacement ∷ []) ≡ replacement_bytes
encodes_replacement = rw (three replacement (omega arith) (omega arith))

encodes_after : (bytes rest : List ℕ) → encode_utf8_all (text_of bytes ++ rest) ≡ front_of bytes ++ encode_utf8_all rest
encodes_after bytes rest = rw (encodes-append, encodes-text_of)

lossy_whole : (bytes : List ℕ) → text_len bytes ≡ length bytes → begun_len bytes ≡ length bytes → encode_utf8_all (replaced_whole bytes) ≡ utf8_lossy bytes
lossy_whole bytes whole all =
    let same : front_of bytes ≡ bytes = take_all (text_len bytes) bytes (omega (arith, whole)) in
    let is = whole_is bytes (text_of bytes) 0 (replaced-all bytes all) (omega (arith, bytes_in-all bytes all, whole)) in
    rw (is, encodes_after bytes [], append-nil, same) (sym (utf8_lossy-IsUtf8 bytes (rw same at (front_of-IsUtf8 bytes))))

lossy_cut : (bytes : List ℕ) → text_len bytes < length bytes → begun_len bytes ≡ length bytes → encode_utf8_all (replaced_whole bytes) ≡ utf8_lossy bytes
lossy_cut bytes short all =
    let is = whole_is bytes (text_of bytes) (begun_at_end bytes) (replaced-all bytes all) refl in
    let past : length bytes ≤ text_len bytes + utf8_invalid_len (rest_at bytes) = omega (arith, all, invalid_begun (rest_at bytes) (omega (arith, short, all))) in
    rw (
      is,
      ne_eqb (begun_at_end bytes) 0 (omega (arith, short, bytes_in-all bytes all)),
      encodes_after bytes (replacement ∷ []),
      encodes_replacement,
      utf8_lossy_step bytes (omega (arith, short)),
      drop_all _ bytes past,
      utf8_lossy_empty [] refl,
    )

lossy_ill_formed : (bytes : List ℕ) (at start : ℕ) → ending_of bytes ≡ Bad at start
    → encode_utf8_all (replaced_whole (drop (subpart_end at start) bytes)) ≡ utf8_lossy (drop (subpart_end at start) bytes) → encode_utf8_all (replaced_whole bytes) ≡ utf8_lossy bytes
lossy_ill_formed bytes at start e h =
    let rest : List ℕ = drop (subpart_end at start) bytes in
    let is = whole_is bytes _ (begun_at_end rest) (replaced-ill_formed bytes e) (omega (arith, bytes_in-ill_formed bytes e, length-drop (subpart_end at start) bytes)) in
    rw (
      is,
      append_assoc,
      ← (whole_is rest (replaced rest) (begun_at_end rest) refl refl),
      encodes_after bytes (replacement ∷ replaced_whole rest),
      three replacement (omega arith) (omega arith),
      h,
      utf8_lossy_step bytes (omega (arith, ill_formed bytes at start e)),
      ill_formed_invalid bytes e,
    )

pub encodes-replaced_whole : (bytes : List ℕ) → encode_utf8_all (replaced_whole bytes) ≡ utf8_lossy bytes
encodes-replaced_whole = by_subparts (λ bytes. encode_utf8_all (replaced_whole bytes) ≡ utf8_lossy bytes)
    (λ bytes all. ⊎_elim (λ short. lossy_cut bytes short all) (λ past. lossy_whole bytes (omega (arith, past, all)) all) (order (text_len bytes) (length bytes)))
    lossy_ill_formed
