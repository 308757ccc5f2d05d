-- Each character of the plain ranges passes, shown by one computation a form.
use Rattle.std.proofs.Common.{◌≡◌, ℕ, Bool, true, not, ◌&&◌, ◌==◌, List, [], ◌∷◌, refl, arith}
use Rattle.nf_facts.proofs.Common.{nat_tests, ccc, quick_check, Form, Nfc, kit_form}
use Rattle.ucd_table.specs.Rows.{Range, in_ranges}
use Rattle.ucd_table.proofs.Stepped.{Stepped, of_ranges, zip_stepped}
use Rattle.ucd_table.proofs.RangedFacts.{points_ok}
use Rattle.ucd_table.proofs.Computing.{tables}
use Rattle.ucd_normal.proofs.CanonicalCombiningClassLemmas.{canonical_combining_class_stepped}
use Rattle.ucd_normal.proofs.QuickCheckLemmas.{quick_check_stepped}
use Rattle.nf_facts.specs.PlainRanges.{plain_ranges}
use Rattle.nf_facts.specs.Passing.{is_yes}
use Rattle.nf_facts.proofs.Ranges.{none_fails, none_fails-true}
use Rattle.nf_facts.proofs.laws.plain_ranges_pass.Goals as goal

-- the test as steps: the class and the answer zipped, and the two halfwidth marks taken out as a range
abbrev halfwidth : List Range
halfwidth = (0xFF9E, 0xFF9F) ∷ []

abbrev passes_by_range : Form → ℕ → Bool
passes_by_range f c = (ccc c == 0 && is_yes (quick_check (kit_form f) c)) && not (in_ranges halfwidth c)

by_steps : (f : Form) → Stepped (passes_by_range f)
unfolding tables points_ok canonical_combining_class_stepped quick_check_stepped
by_steps f =
    let yes_here = zip_stepped (λ n v. n == 0 && is_yes v) ccc (quick_check (kit_form f)) canonical_combining_class_stepped (quick_check_stepped (kit_form f)) in
    zip_stepped (λ b h. b && not h) _ (in_ranges halfwidth) yes_here (of_ranges halfwidth refl)

all_plain : (f : Form) (c : ℕ) → in_ranges (plain_ranges f) c ≡ true → passes_by_range f c ≡ true
unfolding by_steps none_fails plain_ranges
all_plain Nfc = none_fails-true (plain_ranges Nfc) refl (passes_by_range Nfc) (by_steps Nfc) refl
all_plain f = none_fails-true (plain_ranges f) refl (passes_by_range f) (by_steps f) refl

-- each part of the test gives the other form of it
pub returns : goal.returns
unfolding in_ranges
returns c f x inside = grind (arith, nat_tests, all_plain f x)
