-- The names that most of these proofs cite, passed on from one place. Declares nothing.
pub use Rattle.std.proofs.lemmas.Bool.{cases_Bool, false_from_ne_true, cases_eq, or_right}
pub use Rattle.std.proofs.lemmas.Bool.Decides.{nat_tests}
pub use Rattle.std.specs.List.{list_all, All}
pub use Rattle.ucd_normal.specs.CanonicalCombiningClass.{canonical_combining_class as ccc}
pub use Rattle.ucd_normal.specs.QuickCheck.{quick_check}
pub use Rattle.ucd_normal.specs.declared.forms.Form.{Form as KitForm}
pub use Rattle.ucd_normal.specs.declared.forms.Form.TheVariants.{Nfd as KitNfd, Nfkd as KitNfkd, Nfc as KitNfc, Nfkc as KitNfkc}
pub use Rattle.ucd_normal.specs.declared.forms.QuickCheck.TheVariants.{No, Yes}
unfoldable pub use Rattle.unicode_normalization.specs.Decompose.{decompose}
unfoldable pub use Rattle.unicode_normalization.proofs.Computing.{unicode_normalization}
pub use Rattle.nf_forms.specs.Properties.{Properties, is_starter, is_nonstarter}
pub use Rattle.nf_forms.specs.Runs.{has_starter, lead, trail}
pub use Rattle.nf_forms.specs.declared.form.Form.{Form}
pub use Rattle.nf_forms.specs.declared.form.Form.TheVariants.{Nfc, Nfd, Nfkc, Nfkd}
pub use Rattle.nf_forms.specs.Forms.{row_of, normal_form}
unfoldable pub use Rattle.nf_forms.specs.Ucd.{ucd}
pub use Rattle.nf_facts.specs.KitForm.{kit_form}
