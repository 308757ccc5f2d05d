-- What the filter gives of a text to a sink that compares, and whether that is as expected.
use Rattle.nf_vectors.proofs.Common.{inl, inr, ◌≡◌, ℕ, ◌==◌, true, false, not, ◌&&◌, List, [], ◌∷◌, ◌++◌, None, is_some, length, take-append-drop, refl, sym, ap, ◌∙◌, arith, length-append, append-nil, bytes_eq, encode_utf8_all, IsUtf8, Result, is_ok, bytes_eq-Decides, encodes_same, Properties, Form, safe_form, is_usable, holds}
use Rattle.std.proofs.lemmas.Bool.{cases_Bool}
use Rattle.std.proofs.lemmas.List.{append_cancel_left}
use Rattle.std.specs.Str.{chars}
use Rattle.std.specs.Str.Lossy.{utf8_valid_len}
use Rattle.nf_utf8.specs.Text.{IsText}
use Rattle.nf_utf8.specs.Ending.{Whole}
use Rattle.nf_utf8.specs.Reading.{text_of, ending_of}
use Rattle.nf_utf8.specs.Laws.{ReadsBack}
use Rattle.nf_filter.specs.declared.fault.Fault.{Fault}
use Rattle.nf_filter.specs.declared.tally.Tally.{Tally}
use Rattle.nf_filter.specs.Faults.{fault_in}
use Rattle.nf_filter.specs.Policy.{as_is}
use Rattle.nf_filter.specs.Finishes.{end_of}
use Rattle.nf_filter.specs.Whole.{Converts, whole_answer, whole_utf8}
use Rattle.nf_filter.proofs.WholeLemmas.{without, final_is}
use Rattle.nf_filter.specs.declared.comparing.Comparing.{Comparing}
use Rattle.nf_filter.specs.InCommon.{goes_on_with}
use Rattle.nf_filter.specs.Comparing.{same, left, sink_state}
use Rattle.nf_filter.proofs.ComparingLemmas.{Wrote, gave, other_written, unfailed, all_written}

-- texts are the same where their UTF-8 is
encodes_eq : (x y : List ℕ) → bytes_eq x y ≡ bytes_eq (encode_utf8_all x) (encode_utf8_all y)
encodes_eq x y = grind (arith, encodes_same, bytes_eq-Decides x y, bytes_eq-Decides (encode_utf8_all x) (encode_utf8_all y))

-- what goes on with another byte is another text
another : (m i : List ℕ) (b : ℕ) (rest : List ℕ) → goes_on_with b i ≡ false → (m ++ b ∷ rest ≡ m ++ i) → ⊥
another m i b rest differ same = on i differ (append_cancel_left m (b ∷ rest) i same)
  where
    on : (i : List ℕ) → goes_on_with b i ≡ false → (b ∷ rest ≡ i) → ⊥
    on [] differ same = cc
    on (a ∷ i) differ same = grind (arith)

-- and what has nothing after it is the same
ends : (m l : List ℕ) → (length l == 0) ≡ bytes_eq m (m ++ l)
ends m [] = grind (arith, append-nil m, bytes_eq-Decides m (m ++ []))
ends m (a ∷ l) = grind (arith, longer, bytes_eq-Decides m (m ++ a ∷ l))
  where
    longer : (m ≡ m ++ a ∷ l) → ⊥
    longer same = omega (arith, ap length same, length-append m (a ∷ l))

module _ (reads : ReadsBack) (f : Form) (p : Properties) (bytes x e : List ℕ) (utf8 : IsUtf8 bytes) (is : bytes ≡ encode_utf8_all x) where
  text : IsText x
  text = grind (arith, encodes_same utf8.0 x, utf8, is)

  text_is : text_of bytes ≡ x
  unfolding text_of chars utf8_valid_len
  text_is = rw (is, ← append-nil (encode_utf8_all x), reads.text x [] text) (append-nil x)

  ending_is : ending_of bytes ≡ Whole
  unfolding ending_of chars utf8_valid_len
  ending_is = rw (is, ← append-nil (encode_utf8_all x), reads.ending x [] text) refl

  answer_is : is_ok (whole_answer p bytes) ≡ is_usable p x
  unfolding whole_answer fault_in end_of
  answer_is = grind (arith, text_is, ending_is)

  form_is : is_usable p x ≡ true → whole_utf8 f p bytes ≡ encode_utf8_all (safe_form f p x)
  unfolding fault_in
  form_is used =
      let none : fault_in as_is p 0 bytes ≡ None = rw (text_is, ending_is, used) refl in
      rw (← without f p bytes (sym none), final_is f p bytes ending_is, text_is) refl

  -- it holds where all is taken and what is given is as expected
  holds_is : holds f p x e ≡ (is_ok (whole_answer p bytes) && bytes_eq (whole_utf8 f p bytes) (encode_utf8_all e))
  holds_is = grind (arith, encodes_eq (safe_form f p x) e, form_is, answer_is)

  module _ (old new : Comparing) (expected : old.first.now ++ old.second.now ≡ encode_utf8_all e) (fresh : (same old ≡ []) × (old.other ≡ None) × (old.failed ≡ false)) where
    pub holds-told : (r : Result Tally Fault) → Converts f p bytes (sink_state old) (sink_state new) r → (is_ok r && (not (is_some new.other) && (length (left new) == 0))) ≡ holds f p x e
    holds-told r converts =
        let wrote : Wrote old new [] (whole_utf8 f p bytes) r = record { begun = fresh; broken = converts.broken_off; puts = converts.written } in
        let both : encode_utf8_all e ≡ same new ++ left new = sym (take-append-drop new.count (new.first.now ++ new.second.now) ∙ (gave wrote).1 ∙ expected) in
        elim (cases_Bool (is_some new.other)) [
          | inl other ↦
              let on = other_written wrote other in
              let differ = another (same new) (left new) on.0 on.1 on.2 in
              grind (arith, other, holds_is, differ, on.3, both, bytes_eq-Decides (whole_utf8 f p bytes) (encode_utf8_all e))
          | inr none ↦ grind (arith, none, holds_is, converts.answer (unfailed wrote none), all_written wrote none, both, ends (same new) (left new))
        ]
