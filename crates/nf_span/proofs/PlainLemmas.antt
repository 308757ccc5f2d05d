-- Text of which the bytes tell that each character passes: each parts it.
use Rattle.std.proofs.Common.{◌≡◌, ℕ, ◌+◌, ◌<◌, ◌≤◌, ⊎_elim, inl, true, false, List, [], ◌∷◌, ◌++◌, length, get_or, refl, ap, ◌∙◌, arith, length-append, append_assoc, add_assoc}
use Rattle.std.specs.Prelude.{chars, encode_utf8, encode_utf8_all, IsUtf8}
use Rattle.std.specs.Str.{all_scalars, IsCharBoundary}
use lib.Utf8.{scalar, scalar_cases}
use Rattle.std.proofs.str.Classes.{width_is}
use Rattle.std.proofs.lemmas.Bool.{and_parts}
use Rattle.std.proofs.lemmas.List.{get_or-append-add}
use Rattle.std.proofs.lemmas.Str.{encodes-chars, scalars-chars}
use Rattle.ucd_table.specs.Rows.{in_ranges}
use Rattle.nf_forms.specs.declared.form.Form.{Form}
use Rattle.nf_forms.specs.Sound.{max_row}
use Rattle.nf_forms.specs.Span.{BeginsRun, IsSpanFrom}
use Rattle.nf_forms.specs.Ucd.{ucd}
use Rattle.nf_facts.specs.PlainRanges.{plain_ranges}
use Rattle.nf_span.specs.Closer.{look_at}
use Rattle.nf_span.proofs.ToldLemmas.{by_told}

module _ (f : Form) where
  -- after a piece
  look_at-after : (piece rest : List ℕ) (j : ℕ) → look_at f rest j ≡ look_at f (piece ++ rest) (length piece + j)
  look_at-after piece rest j = simp (add_assoc, get_or-append-add piece rest)

  -- of the bytes before n
  abbrev ArePlain : List ℕ → ℕ → Type 0
  ArePlain bytes n = (k : ℕ) → k < n → look_at f bytes k ≡ false

  -- of such bytes, with others after them, what is said of the first character, and of the others
  record FirstPlain (c : ℕ) (cs more : List ℕ) : Type 0 where
    passes : in_ranges (plain_ranges f) c ≡ true
    scalars : all_scalars cs ≡ true
    plain : ArePlain (encode_utf8_all cs ++ more) (length (encode_utf8_all cs))

  first_plain : (c : ℕ) (cs more : List ℕ) → all_scalars (c ∷ cs) ≡ true → ArePlain (encode_utf8_all (c ∷ cs) ++ more) (length (encode_utf8_all (c ∷ cs))) → FirstPlain c cs more
  first_plain c cs more scalars plain =
      let both = and_parts (scalar c) (all_scalars cs) scalars in
      let width = width_is c in
      let fits : c < 1114112 = ⊎_elim (λ low. omega arith) (λ high. high.1) (scalar_cases c both.0) in
      let bytes = length-append (encode_utf8 c) (encode_utf8_all cs) in
      let joined = append_assoc (encode_utf8 c) (encode_utf8_all cs) more in
      record {
        passes = by_told f c (encode_utf8_all cs ++ more) fits (rw joined at (plain 0 (omega arith)));
        scalars = both.1;
        plain = λ j inside. look_at-after (encode_utf8 c) (encode_utf8_all cs ++ more) j ∙ rw joined at (plain (length (encode_utf8 c) + j) (omega arith));
      }

  -- where a character begins, or nothing stands, the text may be cut
  pub boundary : (bytes : List ℕ) (n : ℕ) → n ≤ length bytes → (n < length bytes → 192 ≤ get_or bytes n 0) → IsCharBoundary bytes n
  boundary bytes n within begins = (within, λ inside high. begins inside)

  module _ (begins : (c : ℕ) → in_ranges (plain_ranges f) c ≡ true → BeginsRun ucd f c max_row) where
    span_after : (cs more : List ℕ) → all_scalars cs ≡ true → ArePlain (encode_utf8_all cs ++ more) (length (encode_utf8_all cs)) → IsSpanFrom ucd f 0 max_row cs 0 max_row
    span_after [] more scalars plain = (refl, refl)
    span_after (c ∷ cs) more scalars plain =
        let first = first_plain c cs more scalars plain in
        (0, max_row, inl (begins c first.passes), span_after cs more first.scalars first.plain)

    -- a text of such bytes
    pub span_from-plain : (k n : ℕ) (text more : List ℕ) → IsUtf8 text → 0 < length text → ArePlain (text ++ more) (length text) → IsSpanFrom ucd f k n (chars text) 0 max_row
    span_from-plain k n text more u some plain = of (chars text) (scalars-chars text u) (encodes-chars text u)
      where
        of : (cs : List ℕ) → all_scalars cs ≡ true → encode_utf8_all cs ≡ text → IsSpanFrom ucd f k n cs 0 max_row
        of [] scalars e = absurd (omega (arith, ap length e))
        of (c ∷ cs) scalars e =
            let first = first_plain c cs more scalars (rw e plain) in
            (0, max_row, inl (begins c first.passes), span_after cs more first.scalars first.plain)
