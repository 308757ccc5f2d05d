-- Starters that pass the quick check of a form are own boundaries, but for the two halfwidth marks.
use Rattle.std.proofs.Common.{◌≡◌, ℕ, true, false, [], ◌∷◌, refl, ◌∙◌, arith}
use Rattle.nf_facts.proofs.Common.{nat_tests, KitNfkd, KitNfc, KitNfkc, Yes, ccc, quick_check, decompose, lead, Form, Nfc, Nfkc, row_of, normal_form, ucd, kit_form}
use Rattle.unicode_normalization.proofs.ComposeLemmas.{is_starter_from}
use Rattle.unicode_normalization.proofs.ComposedForms.{IsComposed-Nfc, IsComposed-Nfkc, of_starter, never_second}
use Rattle.unicode_normalization.proofs.DecomposeLemmas.{decompose-final}
use Rattle.unicode_normalization.proofs.FormsLemmas.{is_final-Nfd, is_final-Nfkd, is_yes-true, normalize-passes}
use Rattle.unicode_normalization.proofs.OrderLemmas.{is_ordered-one}
use Rattle.unicode_normalization.proofs.RebuildLemmas.{IsRebuilt}
use Rattle.nf_forms.specs.Boundary.{NeverSecond, HasBoundaryBefore, IsOwnBoundary}
use Rattle.nf_forms.specs.Laws.SegmentForms.{resets_count-lead}
use Rattle.nf_facts.specs.Passing.{is_among, vowel_signs, halfwidth_marks, passes_check}
use Rattle.nf_facts.proofs.Mapped.{Begins, by_row}
use Rattle.nf_facts.specs.Refused.{no_vowel_sign}
use Rattle.nf_facts.proofs.Rows.{class-letter, is_sound-ucd}
use Rattle.nf_facts.proofs.SameForms.{composite-ucd, normal_form-ucd}

-- ---- the compatibility row of a starter begins with a starter, but for the exceptions

pub compat-lead : (c : ℕ) → ccc c ≡ 0 → is_among vowel_signs c ≡ false → is_among halfwidth_marks c ≡ false → lead ucd (ucd.compat c) ≡ 0
unfolding ucd
compat-lead c starter sign mark =
    by_row KitNfkd c (λ w. lead ucd w ≡ 0) refl (λ x w low high _. rw (class-letter x low high)) (rw starter) (λ mapped. grind (arith, nat_tests, mapped Begins))

-- ---- what passes the quick check of a composing form is second in no composite

pub never_second-yes : (f : Form) (c : ℕ) → quick_check (kit_form f) c ≡ Yes → NeverSecond ucd f c
never_second-yes Nfc c is composes a = rw composite-ucd (never_second KitNfc IsComposed-Nfc c (rw is) a)
never_second-yes Nfkc c is composes a = rw composite-ucd (never_second KitNfkc IsComposed-Nfkc c (rw is) a)
never_second-yes _ c is composes a = cc

-- ---- its row begins with such a one

boundary_rebuilt : (f : Form) (c : ℕ) → IsRebuilt c (row_of f ucd c) → HasBoundaryBefore ucd f c
unfolding ucd
boundary_rebuilt f c r =
    record { first = r.first; rest = r.rest; row = r.split; starter = is_starter_from r.first r.starter; never_second = λ _ a. rw composite-ucd (r.never_second a) }

pub has_boundary_before : (f : Form) (c : ℕ) → ccc c ≡ 0 → quick_check (kit_form f) c ≡ Yes → HasBoundaryBefore ucd f c
unfolding ucd decompose
has_boundary_before Nfc c starter is = boundary_rebuilt Nfc c (of_starter KitNfc IsComposed-Nfc c (rw is) (omega arith))
has_boundary_before Nfkc c starter is = boundary_rebuilt Nfkc c (of_starter KitNfkc IsComposed-Nfkc c (rw is) (omega arith))
has_boundary_before f c starter is =
    record { first = c; rest = []; row = search (decompose-final, is_final-Nfd, is_final-Nfkd); starter = rw starter; never_second = never_second-yes f c is }

pub alone : (f : Form) (c : ℕ) → quick_check (kit_form f) c ≡ Yes → normal_form f ucd (c ∷ []) ≡ c ∷ []
alone f c is = normal_form-ucd f (c ∷ []) ∙ normalize-passes (kit_form f) (c ∷ []) (rw is) (is_ordered-one c)

pub own_boundary-ucd : (f : Form) (c : ℕ) → passes_check f c ≡ true → IsOwnBoundary ucd f c
unfolding ucd
own_boundary-ucd f c h =
    let starter : ccc c ≡ 0 = grind (arith, nat_tests) in
    let is : quick_check (kit_form f) c ≡ Yes = is_yes-true _ (grind (arith, nat_tests)) in
    record {
      starts = rw starter;
      boundary_before = has_boundary_before f c starter is;
      counts = resets_count-lead ucd f c (is_sound-ucd c) (compat-lead c starter (no_vowel_sign f c (λ no. cc)) (grind (arith, nat_tests)));
      alone = alone f c is;
    }
