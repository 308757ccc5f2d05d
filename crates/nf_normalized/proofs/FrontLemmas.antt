-- Fronts of a text in a form, over Unicode's data.
use Rattle.nf_normalized.proofs.Common.{nat_tests, ◌≡◌, ◌≢◌, ◌↔◌, ℕ, ◌<◌, false, List, [], ◌∷◌, ◌++◌, length, take, Some, refl, sym, ◌∙◌, arith, inl, inr, IsTrue, append-nil, append_assoc, cases_Bool, length-append, take_at, canonical_combining_class, unicode_normalization, is_starter, lead, Form, Nfkc, Nfkd, composite, row_of, decomposed, composes, normal_form, stream_safe, safe_form, is_sound, IsMark, ucd, by_last, row-mark, BeginsInStarter, begins_in_starter, IsSoundText, IsSound-from_test, decomposed-push, is_in_format, after, is_among, halfwidth_marks, vowel_signs}
use Rattle.ucd_normal.specs.declared.forms.Form.{Form as KitForm}
use Rattle.ucd_normal.specs.declared.forms.Form.TheVariants.{Nfd as KitNfd, Nfkd as KitNfkd}
use Rattle.ucd_normal.specs.declared.forms.QuickCheck.TheVariants.{No}
use Rattle.ucd_normal.specs.QuickCheck.{quick_check}
use Rattle.unicode_normalization.specs.Forms.{normalize}
use Rattle.unicode_normalization.specs.QuickCheck.{worst, quick_check_text}
use Rattle.unicode_normalization.proofs.DecomposeLemmas.{decompose-primary_composite}
use Rattle.unicode_normalization.proofs.FormsLemmas.{quick_check_text-No}
use Rattle.nf_facts.specs.KitForm.{kit_form}
use Rattle.nf_facts.specs.Refused.{not_among, no_vowel_sign}
use Rattle.nf_normalized.proofs.KeptLemmas.{some_of, length-form_of}
use Rattle.nf_normalized.proofs.TakenLemmas.{IsRow, last_taken}

-- ---- no character of a text in a form is refused by its quick check

worst-last : (f : KitForm) (y : List ℕ) (c : ℕ) → quick_check f c ≡ No → worst f (y ++ c ∷ []) ≡ No
unfolding worst
worst-last f [] c refused = grind arith
worst-last f (x ∷ y) c refused = grind (arith, worst-last f y c)

-- ---- the row of one that is not refused

module _ (sound : (c : ℕ) → IsTrue (is_sound ucd c))
    (starters : (c : ℕ) → canonical_combining_class c ≡ 0 → is_among vowel_signs c ≡ false → is_among halfwidth_marks c ≡ false → lead ucd (ucd.compat c) ≡ 0)
    (halfwidth : (c : ℕ) → IsTrue (is_among halfwidth_marks c) → ucd.canonical c ≡ c ∷ [])
    (marks : (f : Form) (c : ℕ) → 0 < canonical_combining_class c → quick_check (kit_form f) c ≢ No → IsMark ucd c (canonical_combining_class c)) where
  row_of_starter : (f : Form) (c : ℕ) → canonical_combining_class c ≡ 0 → quick_check (kit_form f) c ≢ No → BeginsInStarter ucd (row_of f ucd c)
  unfolding ucd unicode_normalization
  row_of_starter Nfkc c none may =
      begins_in_starter ucd (ucd.compat c) (IsSound-from_test ucd c (sound c)).compat_some (starters c none (no_vowel_sign Nfkc c may) (not_among Nfkc c may halfwidth_marks refl))
  row_of_starter Nfkd c none may =
      begins_in_starter ucd (ucd.compat c) (IsSound-from_test ucd c (sound c)).compat_some (starters c none (no_vowel_sign Nfkd c may) (not_among Nfkd c may halfwidth_marks refl))
  row_of_starter f c none may =
      let own = IsSound-from_test ucd c (sound c) in
      elim (cases_Bool (is_among halfwidth_marks c)) [
        | inl among ↦ record { first = c; rest = []; text = halfwidth c among; starter = grind (arith, nat_tests) }
        | inr other ↦ begins_in_starter ucd (ucd.canonical c) own.canonical_some (omega (arith, own.lead_within, starters c none (no_vowel_sign f c may) other))
      ]

  row_from : (f : Form) (c : ℕ) → quick_check (kit_form f) c ≢ No → IsRow ucd c (row_of f ucd c)
  unfolding ucd
  row_from f c may =
      elim (cases_Bool (is_starter ucd c)) [
        | inl starts ↦ inl (row_of_starter f c (grind (arith, nat_tests)) may)
        | inr mark ↦ inr (row-mark ucd f c (canonical_combining_class c) (marks f c (grind (arith, nat_tests)) may), mark)
      ]

  -- ---- a composite's row is longer than that of its first part

  module _ (pairs : (a b : ℕ) → composite ucd a b ≡ ucd.pair a b)
      (kit : (f : Form) (x : List ℕ) → normal_form f ucd x ≡ normalize (kit_form f) x)
      (twice : (f g : Form) (x : List ℕ) → normal_form g ucd (normal_form f ucd x) ≡ normal_form (after g f) ucd x) where
    longer : (f : Form) (a b d : ℕ) → composite ucd a b ≡ Some d → length (row_of f ucd a) < length (row_of f ucd d)
    unfolding ucd
    longer f a b d made =
        let pair = sym (pairs a b) ∙ made in
        grind (arith, some_of sound f b, decompose-primary_composite KitNfd a b d pair, decompose-primary_composite KitNfkd a b d pair, length-append)

    -- ---- fronts

    -- a text in a form is in it without its last character
    form-last_taken : (f : Form) (y : List ℕ) (c : ℕ) → normal_form f ucd (y ++ c ∷ []) ≡ y ++ c ∷ [] → normal_form f ucd y ≡ y
    unfolding quick_check_text
    form-last_taken f y c same =
        let may : quick_check (kit_form f) c ≢ No = λ no. quick_check_text-No (kit_form f) _ (grind (arith, worst-last (kit_form f) y c no)) (sym (kit f _) ∙ same) in
        last_taken ucd (row_of f ucd) (some_of sound f) (longer f) (composes f) (decomposed f ucd y) y c (row_from f c may) (length-form_of sound f twice y)
        (rw decomposed-push at same)

    form-front : (f : Form) (x y : List ℕ) → normal_form f ucd (x ++ y) ≡ x ++ y → normal_form f ucd x ≡ x
    form-front f x = by_last (λ y. normal_form f ucd (x ++ y) ≡ x ++ y → normal_form f ucd x ≡ x) (λ same. rw append-nil at same)
        (λ y c before same. before (form-last_taken f (x ++ y) c (rw (← append_assoc x y (c ∷ [])) at same)))

    module _ (texts : (x : List ℕ) → IsSoundText ucd x) (safe : (f : Form) (x : List ℕ) → stream_safe ucd (safe_form f ucd x) ≡ safe_form f ucd x)
        (in_format : (x : List ℕ) (n : ℕ) → IsTrue (is_in_format ucd x) → IsTrue (is_in_format ucd (take n x)))
        (unchanged : (x : List ℕ) → IsSoundText ucd x → (stream_safe ucd x ≡ x) ↔ IsTrue (is_in_format ucd x)) where
      pub front_in_form : (f : Form) (x y : List ℕ) → safe_form f ucd (x ++ y) ≡ x ++ y → safe_form f ucd x ≡ x
      unfolding safe_form
      front_in_form f x y same =
          let whole : stream_safe ucd (x ++ y) ≡ x ++ y = grind (arith, same, safe f (x ++ y)) in
          let front = rw take_at at (in_format (x ++ y) (length x) ((unchanged (x ++ y) (texts (x ++ y))).0 whole)) in
          rw ((unchanged x (texts x)).1 front) (form-front f x y (rw whole at same))
