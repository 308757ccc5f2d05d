-- Stretches of text, each with the ill-formed part after it.
use Rattle.nf_utf8.proofs.Common.{◌≡◌, ℕ, ◌+◌, ◌≤◌, List, [], ◌∷◌, ◌++◌, length, take, drop, true, arith, append_assoc, take-append-drop, length-take, take-take, chars, IsUtf8, replacement_bytes, drop-drop, drop-append-le, chars-append, chars-encodes, IsUtf8-append, text_len, text_of, begun_len, replacement, subpart_end, IsLeft, IsStretch, refl, sym, ap, ◌∙◌, Some, unwrap_or, utf8_error_len}
use Rattle.nf_utf8.specs.declared.lossy.Stretch.{Stretch}
use Rattle.nf_utf8.proofs.LossyLemmas.{rest_at, ill_formed_invalid, encodes_replacement}
use Rattle.nf_utf8.proofs.BegunLen.{told_ill_formed, ending_of-ill_formed}
use Rattle.nf_utf8.proofs.LeftLemmas.{IsLeft-more, IsLeft-join, IsLeft-bad}
use Rattle.nf_utf8.proofs.ReadingLemmas.{front_of-IsUtf8}
use Rattle.nf_utf8.proofs.ReplacedLemmas.{subpart_end_is}

replacement-utf8 : IsUtf8 replacement_bytes
replacement-utf8 = (replacement ∷ [], (refl, encodes_replacement))

pub replacement-chars : chars replacement_bytes ≡ replacement ∷ []
replacement-chars = rw encodes_replacement at (chars-encodes (replacement ∷ []) refl)

-- as they are found in the first `near` bytes, where std tells how many are invalid: those of the part that a byte breaks off
pub stretch_is : (bytes : List ℕ) (near n : ℕ) → utf8_error_len (rest_at (take near bytes)) ≡ Some n
    → IsStretch bytes (record { text = text_len (take near bytes); len = text_len (take near bytes) + n })
unfolding text_of
stretch_is bytes near n told =
    let start : List ℕ = take near bytes in
    let bad = ending_of-ill_formed start (told_ill_formed start n told) in
    let all : subpart_end (begun_len start) (text_len start) ≡ text_len start + n = sym (ill_formed_invalid start bad) ∙ ap (λ o. text_len start + unwrap_or o (length (rest_at start))) told in
    let end = subpart_end_is start _ _ bad in
    let same : take (text_len start) start ≡ take (text_len start) bytes = take-take (text_len start) near bytes (omega (arith, end, length-take near bytes)) in
    record {
      within = omega (arith, end, length-take near bytes);
      utf8 = rw same at (front_of-IsUtf8 start);
      part = omega (arith, end, all);
      front = rw (← drop-append-le (subpart_end (begun_len start) (text_len start)) start (drop near bytes) end.1, take-append-drop, same, all) at (IsLeft-more (drop near bytes) (IsLeft-bad bad));
    }

-- ---- one more stretch

-- what it makes of them
pub record IsReplacedWith (bytes new : List ℕ) (next : ℕ) : Type 0 where
  pub text : IsUtf8 new
  pub left : IsLeft true bytes (chars new) next (drop next bytes)
  pub within : next ≤ length bytes

pub one_stretch : (bytes lossy : List ℕ) (len : ℕ) (stretch : Stretch) → IsUtf8 lossy → IsLeft true bytes (chars lossy) len (drop len bytes)
    → IsStretch (drop len bytes) stretch → IsReplacedWith bytes (lossy ++ take stretch.text (drop len bytes) ++ replacement_bytes) (len + stretch.len)
one_stretch bytes lossy len stretch before is next =
    let text : List ℕ = take stretch.text (drop len bytes) in
    let front = IsUtf8-append lossy text before next.utf8 in
    let all : chars (lossy ++ text ++ replacement_bytes) ≡ chars lossy ++ (chars text ++ replacement ∷ []) =
    rw (chars-append (lossy ++ text) replacement_bytes front, chars-append lossy text before, replacement-chars, append_assoc) in
    let both = rw drop-drop at (IsLeft-join is next.front) in
    record {
      text = IsUtf8-append (lossy ++ text) replacement_bytes front replacement-utf8;
      left = rw all both;
      within = omega (arith, both.len);
    }
