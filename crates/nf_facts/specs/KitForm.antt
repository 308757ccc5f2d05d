-- The normalization forms in the words of `ucd_normal` and `unicode_normalization`.
use Rattle.nf_forms.specs.declared.form.Form.{Form}
use Rattle.nf_forms.specs.declared.form.Form.TheVariants.{Nfc, Nfd, Nfkc, Nfkd}
use Rattle.ucd_normal.specs.declared.forms.Form.{Form as KitForm}
use Rattle.ucd_normal.specs.declared.forms.Form.TheVariants.{Nfc as KitNfc, Nfd as KitNfd, Nfkc as KitNfkc, Nfkd as KitNfkd}

abbrev pub kit_form : Form → KitForm
kit_form Nfc = KitNfc
kit_form Nfd = KitNfd
kit_form Nfkc = KitNfkc
kit_form Nfkd = KitNfkd
