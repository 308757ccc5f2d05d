-- What the tables call the decomposition of a character is the row.
use Rattle.std.proofs.Common.{arith, ◌≡◌, ℕ}
use Rattle.unicode_normalization.specs.Decompose.{decompose}
use Rattle.nf_forms.specs.declared.form.Form.{Form}
use Rattle.nf_forms.specs.Forms.{row_of}
use Rattle.nf_forms.specs.Ucd.{ucd}
use Rattle.nf_facts.specs.KitForm.{kit_form}

pub row_is : (f : Form) (c : ℕ) → decompose (kit_form f) c ≡ row_of f ucd c
unfolding ucd decompose
row_is f c = grind arith
