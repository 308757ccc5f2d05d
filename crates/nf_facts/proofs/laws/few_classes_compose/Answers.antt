-- A class that is none of them is of characters that pass the quick check of NFC.
use Rattle.std.proofs.Common.{◌≡◌, ℕ, Bool, true, ◌||◌, refl, arith}
use Rattle.ucd_table.proofs.Stepped.{Stepped, zip_stepped}
use Rattle.ucd_table.proofs.Facts.{Stepped-everywhere}
use Rattle.ucd_table.proofs.Computing.{tables}
use Rattle.ucd_normal.specs.declared.forms.QuickCheck.{QuickCheck}
use Rattle.ucd_normal.proofs.CanonicalCombiningClassLemmas.{canonical_combining_class_stepped}
use Rattle.ucd_normal.proofs.QuickCheckLemmas.{nfc_stepped}
use Rattle.unicode_normalization.proofs.FormsLemmas.{is_yes-true}
use Rattle.nf_facts.proofs.Common.{KitNfc, ccc, quick_check, Nfc}
use Rattle.nf_facts.specs.Passing.{is_among, composing_classes, is_yes}
use Rattle.nf_facts.proofs.Starters.{never_second-yes}
use Rattle.nf_facts.proofs.laws.few_classes_compose.Goals as goal

abbrev either : ℕ × QuickCheck → Bool
either both = is_among composing_classes both.0 || is_yes both.1

unfoldable tests : Stepped (λ c. either (ccc c, quick_check KitNfc c))
unfolding canonical_combining_class_stepped nfc_stepped
tests = zip_stepped (λ n v. either (n, v)) ccc (quick_check KitNfc) canonical_combining_class_stepped nfc_stepped

computed : (c : ℕ) → either (ccc c, quick_check KitNfc c) ≡ true
unfolding tables tests
computed c = Stepped-everywhere _ tests refl c

pub returns : goal.returns
returns c = λ a x none. never_second-yes Nfc x (is_yes-true _ (let told = computed x in grind arith)) refl a
