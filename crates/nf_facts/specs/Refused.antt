-- The exceptions among starters and non-starters that no form's quick check lets pass.
use Rattle.std.proofs.Common.{◌≡◌, ◌≢◌, ℕ, Bool, true, false, List, [], ◌∷◌, refl, ap, ◌∙◌, ne_eqb}
use Rattle.std.proofs.lemmas.Bool.{and_parts, or_from}
use Rattle.std.specs.List.{list_all}
use Rattle.ucd_normal.specs.declared.forms.QuickCheck.{QuickCheck}
use Rattle.ucd_normal.specs.declared.forms.QuickCheck.TheVariants.{No}
use Rattle.ucd_normal.specs.QuickCheck.{quick_check}
use Rattle.unicode_normalization.proofs.Computing.{unicode_normalization}
use Rattle.unicode_normalization.proofs.TableFacts.{is_no}
use Rattle.nf_forms.specs.declared.form.Form.{Form}
use Rattle.nf_forms.specs.declared.form.Form.TheVariants.{Nfc}
use Rattle.nf_facts.specs.KitForm.{kit_form}
use Rattle.nf_facts.specs.Passing.{is_among, vowel_signs, mapped_marks}

-- the form's quick check refuses each of these
abbrev pub refuses : Form → List ℕ → Bool
refuses f cs = list_all (λ x. is_no (quick_check (kit_form f) x)) cs

is_no-true : (v : QuickCheck) → is_no v ≡ true → v ≡ No
is_no-true No h = refl
is_no-true _ h = cc

pub not_among : (f : Form) (c : ℕ) → quick_check (kit_form f) c ≢ No → (cs : List ℕ) → refuses f cs ≡ true → is_among cs c ≡ false
not_among f c may [] all = refl
not_among f c may (x ∷ cs) all =
    let parts = and_parts (is_no (quick_check (kit_form f) x)) (refuses f cs) all in
    or_from _ _ (ne_eqb c x (λ e. may (ap (quick_check (kit_form f)) e ∙ is_no-true _ parts.0))) (not_among f c may cs parts.1)

exceptions-refused : (f : Form) → (refuses f vowel_signs ≡ true) × (refuses f mapped_marks ≡ true)
unfolding unicode_normalization
exceptions-refused Nfc = (refl, refl)
exceptions-refused _ = (refl, refl)

pub no_vowel_sign : (f : Form) (c : ℕ) → quick_check (kit_form f) c ≢ No → is_among vowel_signs c ≡ false
no_vowel_sign f c may = not_among f c may vowel_signs (exceptions-refused f).0

pub no_mapped_mark : (f : Form) (c : ℕ) → quick_check (kit_form f) c ≢ No → is_among mapped_marks c ≡ false
no_mapped_mark f c may = not_among f c may mapped_marks (exceptions-refused f).1
