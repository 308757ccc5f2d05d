-- Fronts of bytes, and what is left after them.
use Rattle.nf_utf8.proofs.Common.{◌≡◌, ℕ, ◌+◌, ◌-◌, Bool, true, false, List, [], ◌∷◌, ◌++◌, length, drop, refl, sym, ap, ◌∙◌, arith, nat_tests, append_assoc, length-append, length-drop, map-append, drop-append-le, drop-append-add, encode_utf8_all, encodes-append, encodes-chars, chars, length-le-encodes, IsUtf8, Ending, Whole, Bad, Cut, moved, text_of, ending_of, replacement, decoded_text, subpart_end, decoded_of, ending_at, IsSubpart, decoded_under, IsLeft}
use Rattle.std.proofs.Common.{add_assoc}
use Rattle.std.proofs.Math.Nat.{zero-add}
use Rattle.nf_utf8.proofs.BegunLen.{begun_len-after}
use Rattle.nf_utf8.proofs.ReadingLemmas.{text_of-after, ending_of-after, length-encodes-text_of, ill_formed}
use Rattle.nf_utf8.proofs.ReplacedLemmas.{bytes_in-append, bytes_in-own, chars-own, bad_subpart, subpart_end_is, by_subparts, decoded_of-all, decoded_of-begun, decoded_of-ill_formed, decoded_of-bad}
use Rattle.nf_utf8.proofs.Sequences.{BeginsText-subpart, subpart_no_char}
use Rattle.nf_utf8.proofs.StandingLemmas.{text_of-none, stands_alone, ending_of-standing}
use Rattle.nf_utf8.proofs.TextLen.{text_len-no_char}

moved-none : (e : Ending) → moved 0 e ≡ e
moved-none Whole = refl
moved-none (Bad at start) = simp zero-add
moved-none (Cut at start) = simp zero-add

moved-twice : (n m : ℕ) (e : Ending) → moved n (moved m e) ≡ moved (n + m) e
moved-twice n m Whole = refl
moved-twice n m (Bad at start) = simp add_assoc
moved-twice n m (Cut at start) = simp add_assoc

pub decoded_text-append : (x y : List ℕ) → decoded_text (x ++ y) ≡ decoded_text x ++ decoded_text y
decoded_text-append x y = map-append _ x y

-- all of the bytes are left
pub IsLeft-all : (r : Bool) (bytes : List ℕ) → IsLeft r bytes [] 0 bytes
IsLeft-all r bytes = record {
  decoded = [];
  chars = refl;
  size = refl;
  own = λ _. refl;
  gives = λ more. refl;
  ending = λ _ more. sym (moved-none _);
  len = omega arith;
  few = omega arith;
}

-- a piece more is left
pub IsLeft-more : {r : Bool} {bytes x : List ℕ} {n : ℕ} {left : List ℕ} (piece : List ℕ) → IsLeft r bytes x n left → IsLeft r (bytes ++ piece) x n (left ++ piece)
IsLeft-more {bytes = bytes} {left = left} piece is = record {
  decoded = is.decoded;
  chars = is.chars;
  size = is.size;
  own = is.own;
  gives = λ more. simp append_assoc (is.gives (piece ++ more));
  ending = λ strict more. simp append_assoc (is.ending strict (piece ++ more));
  len = omega (arith, is.len, length-append bytes piece, length-append left piece);
  few = is.few;
}

-- what one leaves of the bytes is left by the other
pub IsLeft-join : {r : Bool} {bytes x : List ℕ} {n : ℕ} {mid y : List ℕ} {m : ℕ} {left : List ℕ} → IsLeft r bytes x n mid → IsLeft r mid y m left → IsLeft r bytes (x ++ y) (n + m) left
IsLeft-join {x = x} {n = n} {y = y} {m = m} a b = record {
  decoded = a.decoded ++ b.decoded;
  chars = rw (map-append, a.chars, b.chars) refl;
  size = omega (arith, bytes_in-append a.decoded b.decoded, a.size, b.size);
  own = λ strict. omega (arith, a.own strict, b.own strict, ap length (encodes-append x y), length-append (encode_utf8_all x) (encode_utf8_all y));
  gives = λ more. rw (a.gives more, b.gives more) (sym (append_assoc a.decoded b.decoded _));
  ending = λ strict more. rw (a.ending strict more, b.ending strict more) (moved-twice n m _);
  len = omega (arith, a.len, b.len);
  few = omega (arith, a.few, b.few, length-append x y);
}

-- ---- a text

subpart_end-moved : (n at start : ℕ) → (subpart_end (n + at) (n + start) ≡ n + subpart_end at start) × (n + subpart_end at start - (n + start) ≡ subpart_end at start - start)
subpart_end-moved n at start = (grind (arith, nat_tests), omega arith)

module _ (text : List ℕ) (u : IsUtf8 text) where
  -- the parts of a text, and those of what stands after it
  decoded_after : (more : List ℕ) → decoded_of (text ++ more) ≡ decoded_text (chars text) ++ decoded_of more
  decoded_after = by_subparts (λ more. decoded_of (text ++ more) ≡ decoded_text (chars text) ++ decoded_of more)
      (λ more all. rw (decoded_of-all (text ++ more) (omega (arith, begun_len-after text more u, all, length-append text more)), decoded_of-all more all, text_of-after text more u) (decoded_text-append (chars text) (text_of more)))
      (λ more at start e _. let past = subpart_end-moved (length text) at start in
      rw (decoded_of-ill_formed (text ++ more) _ _ (ending_of-after text more u ∙ ap (moved (length text)) e), decoded_of-ill_formed more at start e, text_of-after text more u, decoded_text-append, past.0, past.1, drop-append-add, append_assoc) refl)

  gives : (r : Bool) (left more : List ℕ) → decoded_under r ((text ++ left) ++ more) ≡ decoded_text (chars text) ++ decoded_under r (left ++ more)
  gives false left more = rw (append_assoc text left more, text_of-after text (left ++ more) u) (decoded_text-append (chars text) (text_of (left ++ more)))
  gives true left more = rw (append_assoc text left more) (decoded_after (left ++ more))

  pub IsLeft-text : (r : Bool) (left : List ℕ) → IsLeft r (text ++ left) (chars text) (length text) left
  IsLeft-text r left =
      let size : length (encode_utf8_all (chars text)) ≡ length text = ap length (encodes-chars text u) in
      record {
        decoded = decoded_text (chars text);
        chars = chars-own (chars text);
        size = bytes_in-own (chars text) ∙ size;
        own = λ _. sym size;
        gives = gives r left;
        ending = λ _ more. rw (append_assoc text left more) (ending_of-after text (left ++ more) u);
        len = length-append text left;
        few = omega (arith, length-le-encodes (chars text), size);
      }

-- ---- an ill-formed part

-- after the text before it
pub IsLeft-bad : {bytes : List ℕ} {at start : ℕ} → ending_of bytes ≡ Bad at start → IsLeft true bytes (text_of bytes ++ replacement ∷ []) (subpart_end at start) (drop (subpart_end at start) bytes)
IsLeft-bad {bytes} {at} {start} e =
    let end = subpart_end_is bytes at start e in
    let starts = (ill_formed bytes at start e).2 in
    let size = length-encodes-text_of bytes in
    record {
      decoded = decoded_text (text_of bytes) ++ bad_subpart at start ∷ [];
      chars = rw (map-append, chars-own) refl;
      size = omega (arith, bytes_in-append (decoded_text (text_of bytes)) (bad_subpart at start ∷ []), bytes_in-own (text_of bytes), size, end, starts);
      own = λ strict. cc;
      gives = λ more. rw (decoded_of-bad bytes more at start e, drop-append-le (subpart_end at start) bytes more end.1, append_assoc) refl;
      ending = λ strict more. cc;
      len = omega (arith, end.1, length-drop (subpart_end at start) bytes);
      few = omega (arith, length-append (text_of bytes) (replacement ∷ []), length-le-encodes (text_of bytes), size, starts, end.0);
    }

-- ---- the bytes of a begun character

module _ (subpart : List ℕ) (is : IsSubpart subpart) where
  subpart-text : text_of subpart ≡ []
  subpart-text = text_of-none subpart (text_len-no_char subpart (subpart_no_char subpart is))

  -- they give nothing
  pub subpart-decoded : (r : Bool) → decoded_under r subpart ≡ []
  subpart-decoded false = ap decoded_text subpart-text
  subpart-decoded true = decoded_of-begun subpart (BeginsText-subpart subpart is) ∙ ap decoded_text subpart-text

  -- and end inside it, or there are none
  pub subpart-ending : ending_of subpart ≡ ending_at (length subpart) (length subpart)
  subpart-ending = ending_of-standing (stands_alone subpart is)
