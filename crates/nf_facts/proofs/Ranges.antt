-- A test that fails at no code point, by the steps of its values: ASCII characters are plain in Unicode's data.
use Rattle.std.proofs.Common.{◌≡◌, ℕ, Bool, true, false, not, ◌||◌, List, ◌<◌, [], ◌∷◌, refl, ap, arith}
use Rattle.std.proofs.lemmas.Bool.{true_from_ne_false}
use Rattle.ucd_table.specs.Rows.{Range, in_ranges}
use Rattle.ucd_table.proofs.Stepped.{Stepped, of_ranges, map_stepped, zip_stepped}
use Rattle.ucd_table.proofs.StepsLemmas.{rises_from, range_rows}
use Rattle.ucd_table.proofs.RangedFacts.{at_points, Stepped-at_points, points_ok}
use Rattle.nf_facts.proofs.Common.{nat_tests, KitNfkd, KitNfc, ucd}
use Rattle.ucd_table.proofs.Computing.{tables}
use Rattle.ucd_category.specs.GeneralCategory.{general_category, general_category_eq}
use Rattle.ucd_category.specs.declared.GeneralCategory.TheVariants.{Unassigned}
use Rattle.ucd_category.proofs.GeneralCategoryLemmas.{general_category_stepped}
use Rattle.unicode_normalization.proofs.ComposedForms.{IsComposed-Nfc, never_second}
use Rattle.unicode_normalization.proofs.FormsLemmas.{class-latin, quick_check-ascii}
use Rattle.unicode_normalization.proofs.TableFacts.{is_yes}
use Rattle.nf_forms.specs.Ucd.{is_assigned}
use Rattle.nf_facts.specs.Plain.{IsPlain}
use Rattle.nf_facts.proofs.Rows.{own_row-passing}

-- no step at which the test fails holds a code point of the ranges
unfoldable pub none_fails : (ranges : List Range) → rises_from 0 (range_rows ranges) ≡ true → (p : ℕ → Bool) → Stepped p → Bool
none_fails ranges rising p s = at_points _ (zip_stepped (λ inside b. not inside || b) (in_ranges ranges) p (of_ranges ranges rising) s) (λ b. b) (λ _ _. false)

-- so each of them passes
pub none_fails-true : (ranges : List Range) (rising : rises_from 0 (range_rows ranges) ≡ true) (p : ℕ → Bool) (s : Stepped p) → none_fails ranges rising p s ≡ true
    → (c : ℕ) → in_ranges ranges c ≡ true → p c ≡ true
unfolding none_fails
none_fails-true ranges rising p s ok c inside =
    let steps = zip_stepped (λ inside b. not inside || b) (in_ranges ranges) p (of_ranges ranges rising) s in
    rw inside at (true_from_ne_false _ (λ fails. let fault = Stepped-at_points _ steps (λ b. b) (λ _ _. false) ok c fails in cc))

assigned-ascii : (c : ℕ) → c < 0x80 → is_assigned c ≡ true
unfolding tables points_ok is_assigned general_category_stepped none_fails
assigned-ascii c below =
    none_fails-true ((0x00, 0x7F) ∷ []) refl is_assigned (map_stepped (λ v. not (general_category_eq v Unassigned)) general_category general_category_stepped) refl c (grind (arith, nat_tests))

pub IsPlain-ascii : (c : ℕ) → c < 0x80 → IsPlain ucd c
unfolding ucd
IsPlain-ascii c below =
    let own = own_row-passing c (quick_check-ascii KitNfkd c below) in
    record {
      canonical = own.canonical;
      compat = own.compat;
      class = class-latin c (omega arith);
      assigned = assigned-ascii c below;
      never_second = never_second KitNfc IsComposed-Nfc c (ap is_yes (quick_check-ascii KitNfc c below));
    }
