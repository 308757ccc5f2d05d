-- What a front of bytes gives, and what is left after it.
use Rattle.nf_filter.proofs.Common.{◌≡◌, ℕ, ◌+◌, Bool, true, false, List, [], ◌++◌, length, map, refl, sym, ap, ◌∙◌, arith, append-nil, encode_utf8_all, encodes-append, take-append-add, length-append, length-map, map-append, take_at, Ending, Bad, Cut, None, text_of, ending_of, decoded_text, decoded_after_text, decoded_within, decoded_of, decoded_under, replaced, replaced_len, begun_at_end, replaced_whole, bytes_in, nat_tests, answer_at_end, bad_byte, bad_under, IsLeft, IsSubpart, len_under, text_under, whole_under, Extends, drop, append_assoc}
use Rattle.std.proofs.Common.{add_assoc}
use Rattle.nf_utf8.specs.Ending.{moved}
use Rattle.nf_utf8.specs.Standing.{ending_at}
use Rattle.nf_utf8.proofs.LeftLemmas.{decoded_text-append, subpart-decoded, subpart-ending}
use Rattle.nf_utf8.proofs.ReplacedLemmas.{bytes_in-append, bytes_in-own, chars-own}

-- where what stands after a front of the text of the bytes begins, the first of which has the offset `base`
abbrev pub place_in : Bool → ℕ → List ℕ → List ℕ → ℕ
place_in r base bytes front = base + len_under r bytes front

-- the text is that of the characters
pub text_under-is : (r : Bool) (bytes : List ℕ) → text_under r bytes ≡ map (λ decoded. decoded.char) (decoded_under r bytes)
unfolding replaced
text_under-is false bytes = sym (chars-own (text_of bytes))
text_under-is true bytes = refl

bad_moved : (base n : ℕ) (e : Ending) → bad_byte base (moved n e) ≡ bad_byte (base + n) e
bad_moved base n (Bad at start) = simp add_assoc
bad_moved base n _ = refl

end_moved : (base n : ℕ) (e : Ending) → answer_at_end base (tt {0}) (moved n e) ≡ answer_at_end (base + n) (tt {0}) e
end_moved base n (Cut at start) = simp add_assoc
end_moved base n _ = refl

module _ {r : Bool} {bytes x : List ℕ} {n : ℕ} {left : List ℕ} (is : IsLeft r bytes x n left) where
  gives : decoded_under r bytes ≡ is.decoded ++ decoded_under r left
  gives = rw (append-nil bytes, append-nil left) at (is.gives [])

  pub left-text : text_under r bytes ≡ x ++ text_under r left
  left-text = rw (text_under-is r bytes, text_under-is r left, gives, map-append, is.chars) refl

  pub left-ending : r ≡ false → ending_of bytes ≡ moved n (ending_of left)
  left-ending strict = rw (append-nil bytes, append-nil left) at (is.ending strict [])

-- where the text after a front begins
pub left-place : {r : Bool} {bytes x : List ℕ} {n : ℕ} {left : List ℕ} → IsLeft r bytes x n left → (y : List ℕ) → len_under r bytes (x ++ y) ≡ n + len_under r left y
unfolding replaced_len
left-place {r = false} {x = x} is y = omega (arith, is.own refl, ap length (encodes-append x y), length-append (encode_utf8_all x) (encode_utf8_all y))
left-place {r = true} {x = x} is y =
    let count : length (x ++ y) ≡ length is.decoded + length y = grind (arith, length-append, is.chars, length-map) in
    rw (count, gives is, take-append-add, bytes_in-append, is.size) refl

pub left-bad : {r : Bool} {bytes x : List ℕ} {n : ℕ} {left : List ℕ} → IsLeft r bytes x n left → (base : ℕ) → bad_under r base bytes ≡ bad_under r (base + n) left
left-bad {r = false} {n = n} {left = left} is base = ap (bad_byte base) (left-ending is refl) ∙ bad_moved base n (ending_of left)
left-bad {r = true} is base = refl

pub left-end : {r : Bool} {bytes x : List ℕ} {n : ℕ} {left : List ℕ} → IsLeft r bytes x n left → r ≡ false → (base : ℕ) → answer_at_end base (tt {0}) (ending_of bytes) ≡ answer_at_end (base + n) (tt {0}) (ending_of left)
left-end {n = n} {left = left} is strict base = ap (answer_at_end base (tt {0})) (left-ending is strict) ∙ end_moved base n (ending_of left)

pub left-whole : {r : Bool} {bytes x : List ℕ} {n : ℕ} {left : List ℕ} → IsLeft r bytes x n left → whole_under r bytes ≡ x ++ whole_under r left
unfolding replaced_whole
left-whole {r = false} is = left-text is
left-whole {r = true} {bytes = bytes} {x = x} {left = left} is =
    let held : begun_at_end bytes ≡ begun_at_end left = omega (arith, ap bytes_in (gives is), bytes_in-append is.decoded (decoded_of left), is.size, is.len) in
    rw (held, left-text is) (append_assoc x _ _)

-- the first characters are those that the bytes spell before any bad one
pub text_under-first : (r : Bool) (bytes : List ℕ) → Extends (text_of bytes) (text_under r bytes)
unfolding replaced decoded_of
text_under-first false bytes = record { more = []; text = sym (append-nil (text_of bytes)) }
text_under-first true bytes =
    let more = decoded_after_text (ending_of bytes) (λ n. decoded_within (length bytes) (drop n bytes)) in
    record { more = map (λ decoded. decoded.char) more; text = simp (map-append, chars-own) }

pub len_under-first : (r : Bool) (bytes y z : List ℕ) → text_of bytes ≡ y ++ z → len_under r bytes y ≡ length (encode_utf8_all y)
unfolding replaced_len decoded_of
len_under-first false bytes y z is = refl
len_under-first true bytes y z is = rw (is, decoded_text-append, append_assoc, take_at (decoded_text y) _ (length y) (length-map y _)) (bytes_in-own y)

-- the bytes of a begun character
module _ (subpart : List ℕ) (is : IsSubpart subpart) where
  pub begun-text : (r : Bool) → text_under r subpart ≡ []
  begun-text r = rw (text_under-is r subpart, subpart-decoded subpart is r) refl

  pub begun-good : (base : ℕ) → bad_byte base (ending_of subpart) ≡ None
  begun-good base = rw (subpart-ending subpart is) (by (length subpart))
    where
      by : (n : ℕ) → bad_byte base (ending_at n n) ≡ None
      by n = grind (arith, nat_tests)

  pub begun-all : begun_at_end subpart ≡ length subpart
  begun-all = rw (subpart-decoded subpart is true) (omega arith)
