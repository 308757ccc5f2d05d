-- A text in two, before its last starter that counts as no mark; and a span so.
use Rattle.std.proofs.Common.{◌≡◌, ◌⊎◌, ⊎_elim, inl, inr, ℕ, true, false, ◌||◌, List, [], ◌∷◌, ◌++◌, length, take, drop, refl, sym, ap, subst, ◌∙◌, arith, append_assoc, append-nil, true≢false}
use Rattle.std.proofs.lemmas.Bool.{and_parts, and_from, or_from}
use Rattle.std.proofs.Math.Seq.{take-append_seam, drop-append_seam}
use Rattle.std.specs.Char.{IsScalar}
use Rattle.std.specs.List.{list_all}
use Rattle.std.specs.Str.{IsCharBoundary}
use Rattle.std.specs.Prelude.{chars, encode_utf8, encode_utf8_all, IsUtf8}
use Rattle.std.proofs.lemmas.Str.{chars-nil, chars-append, chars_past_char, encodes-chars, IsUtf8-nil, IsUtf8-append, IsUtf8-encode, IsCharBoundary-at_seam}
use Rattle.ucd_normal.specs.CanonicalCombiningClass.{canonical_combining_class}
use Rattle.nf_forms.specs.Runs.{has_starter, lead}
use Rattle.nf_forms.specs.declared.form.Form.{Form}
use Rattle.nf_forms.specs.declared.form.Form.TheVariants.{Nfkd}
use Rattle.nf_forms.specs.Forms.{decomposed}
use Rattle.nf_forms.specs.StreamSafe.{max_run}
use Rattle.nf_forms.specs.Boundary.{IsOwnBoundary}
use Rattle.nf_forms.specs.Span.{GoesOn, IsSpanFrom, IsSpan}
use Rattle.nf_forms.specs.Ucd.{ucd}
use Rattle.nf_forms.specs.Laws.Runs.{has_starter-append, lead-marks}
use Rattle.nf_forms.specs.Laws.Span.{mark-not_starter, span-begins}
use Rattle.nf_entry.specs.Entry.{IsEntry, IsOfFirst}
use Rattle.nf_entry.specs.declared.entry.Entry.{Entry}
use Rattle.nf_facts.specs.Passing.{is_among, halfwidth_marks, vowel_signs}
use Rattle.nf_span.specs.Front.{BeginsAndMarks}
use Rattle.nf_span.specs.Split.{counts_as_mark, StarterAndMarks, SplitsAtStarter, MarksAfter}

pub no_marks : (text : List ℕ) → IsUtf8 text → MarksAfter text text
no_marks text u = record {
  marks = [];
  split = sym (append-nil text);
  front_utf8 = u;
  marks_utf8 = IsUtf8-nil;
  are_marks = ap (list_all counts_as_mark) chars-nil;
}

-- none was found
pub all_marks : (text : List ℕ) → MarksAfter text [] → SplitsAtStarter text [] text
all_marks text here = record {
  text = refl;
  characters = sym (ap (λ t. t ++ chars text) chars-nil);
  back_utf8 = subst IsUtf8 (sym here.split) here.marks_utf8;
  end = inr (refl, subst (λ t. list_all counts_as_mark (chars t) ≡ true) (sym here.split) here.are_marks);
}

module _ {text last front : List ℕ} (here : MarksAfter text last) (c : ℕ) (scalar : IsScalar c) (u : IsUtf8 front) (e : last ≡ front ++ encode_utf8 c) where
  abbrev after : List ℕ
  after = encode_utf8 c ++ here.marks

  after_utf8 : IsUtf8 after
  after_utf8 = IsUtf8-append (encode_utf8 c) here.marks (IsUtf8-encode c scalar) here.marks_utf8

  chars-after : chars after ≡ c ∷ chars here.marks
  chars-after = chars_past_char after here.marks c after_utf8 refl

  split : text ≡ front ++ after
  split = here.split ∙ ap (λ t. t ++ here.marks) e ∙ append_assoc front (encode_utf8 c) here.marks

  pub one_mark_more : counts_as_mark c ≡ true → MarksAfter text front
  one_mark_more mark = record {
    marks = after;
    split = split;
    front_utf8 = u;
    marks_utf8 = after_utf8;
    are_marks = ap (list_all counts_as_mark) chars-after ∙ and_from _ _ mark here.are_marks;
  }

  pub front_boundary : IsCharBoundary text (length front)
  front_boundary = IsCharBoundary-at_seam text front after split after_utf8

  -- and what comes of it begins with that character
  pub is_first : {b : List ℕ} (entry : Entry) → IsEntry c entry → b ≡ drop (length front) text → IsOfFirst b entry
  is_first entry known is_back = record {
    first = c;
    others = chars here.marks;
    begins = ap chars (is_back ∙ ap (drop (length front)) split ∙ drop-append_seam front after) ∙ chars-after;
    is_entry = known;
  }

  pub splits_at_starter : {a b : List ℕ} → counts_as_mark c ≡ false → a ≡ take (length front) text → b ≡ drop (length front) text → SplitsAtStarter text a b
  splits_at_starter other is_front is_back =
      rw (is_front, is_back, split, take-append_seam front after, drop-append_seam front after)
      (record {
        text = refl;
        characters = chars-append front after u;
        back_utf8 = after_utf8;
        end = inl (record { first = c; marks = chars here.marks; text = chars-after; other = other; are_marks = here.are_marks });
      })

module _ (f : Form) (lead_none : (c : ℕ) → canonical_combining_class c ≡ 0 → is_among vowel_signs c ≡ false → is_among halfwidth_marks c ≡ false → lead ucd (ucd.compat c) ≡ 0)
    (no_starter : (c : ℕ) → (is_among halfwidth_marks c || is_among vowel_signs c) ≡ true → has_starter ucd (ucd.compat c) ≡ false) where
  -- in a span what counts as no mark parts it
  parts : (k n c class count : ℕ) → GoesOn ucd f k n c class count → counts_as_mark c ≡ false → IsOwnBoundary ucd f c
  unfolding ucd
  parts k n c class count (inl begins) other = begins.own_boundary
  parts k n c class count (inr (inl stays)) other =
      absurd (grind (arith, stays.mark.class, stays.mark.above))
  parts k n c class count (inr (inr counts)) other =
      absurd (grind (arith, counts.some, counts.starts, lead-marks ucd (ucd.compat c) counts.none, lead_none c))

  -- and NFKD has non-starters alone of a mark
  of_mark : (k n c class count : ℕ) → GoesOn ucd f k n c class count → counts_as_mark c ≡ true → has_starter ucd (ucd.compat c) ≡ false
  unfolding ucd
  of_mark k n c class count (inl begins) mark = no_starter c (grind (arith, begins.own_boundary.starts))
  of_mark k n c class count (inr (inl stays)) mark = ap (has_starter ucd) stays.mark.compat ∙ or_from _ _ (mark-not_starter ucd c class stays.mark) refl
  of_mark k n c class count (inr (inr counts)) mark = counts.none

  of_marks : (k n : ℕ) (cs : List ℕ) (class count : ℕ) → IsSpanFrom ucd f k n cs class count → list_all counts_as_mark cs ≡ true → has_starter ucd (decomposed Nfkd ucd cs) ≡ false
  of_marks k n [] class count span all = refl
  of_marks k n (c ∷ cs) class count span all =
      let both = and_parts _ _ all in
      has_starter-append ucd (ucd.compat c) (decomposed Nfkd ucd cs) ∙ or_from _ _ (of_mark k n c span.0 span.1 span.2 both.0) (of_marks span.0 span.1 cs class count span.3 both.1)

  -- what follows in a span goes on in it
  span_after : (a b : List ℕ) (k n class count : ℕ) → IsSpanFrom ucd f k n (a ++ b) class count → (next : ℕ) × (more : ℕ) × IsSpanFrom ucd f next more b class count
  span_after [] b k n class count span = (k, n, span)
  span_after (c ∷ a) b k n class count span = span_after a b span.0 span.1 class count span.3

  -- a span in two before its last own boundary
  pub span_end : (whole front back : List ℕ) → SplitsAtStarter whole front back → (class count : ℕ) → IsSpan ucd f (chars front ++ chars back) class count
      → ((front ≡ []) × (back ≡ [])) ⊎ BeginsAndMarks ucd f (chars back)
  span_end whole front back two class count span = ⊎_elim some none two.end
    where
      some : StarterAndMarks (chars back) → ((front ≡ []) × (back ≡ [])) ⊎ BeginsAndMarks ucd f (chars back)
      some end =
          let after = (span_after (chars front) (end.first ∷ end.marks) 0 max_run class count (rw end.text at span)).2 in
          inr (record {
            first = end.first;
            marks = end.marks;
            text = end.text;
            own_boundary = parts _ _ end.first _ _ after.2 end.other;
            no_starter = of_marks _ _ end.marks class count after.3 end.are_marks;
          })

      none : (front ≡ []) × (list_all counts_as_mark (chars back) ≡ true) → ((front ≡ []) × (back ≡ [])) ⊎ BeginsAndMarks ucd f (chars back)
      none marks = inl (marks.0, sym (encodes-chars back two.back_utf8) ∙ ap encode_utf8_all (empty (chars back) (rw (marks.0, chars-nil) at span) marks.1))
        where
          empty : (cs : List ℕ) → IsSpan ucd f cs class count → list_all counts_as_mark cs ≡ true → cs ≡ []
          empty [] span all = refl
          empty (c ∷ cs) span all = absurd (true≢false (sym (span-begins ucd f c cs class count span).counts.some ∙ of_mark _ _ c _ _ span.2 (and_parts _ _ all).0))
