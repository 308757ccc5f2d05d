-- Which lead bytes of UTF-8 (The Unicode Standard, section 3.9, Table 3-6) tell nothing of the characters that they begin.
use Rattle.std.specs.Prelude.{ℕ, Bool, not, ◌==◌, List}
use Rattle.nf_forms.specs.declared.form.Form.{Form}
use Rattle.nf_forms.specs.declared.form.Form.TheVariants.{Nfc, Nfd, Nfkc, Nfkd}
use Rattle.nf_lanes.specs.Sets.{byte_sets}
use Rattle.nf_span.specs.declared.leads.TheConstants.{ROWS, NFC, NFD, NFKC, NFKD}

abbrev pub columns : Form → List ℕ
columns Nfc = NFC
columns Nfd = NFD
columns Nfkc = NFKC
columns Nfkd = NFKD

-- the row of the byte, where it begins a character that has to be looked up, and else 0
abbrev pub lead_bits : Form → ℕ → ℕ
lead_bits f = byte_sets ROWS (columns f)

-- a character that begins with the byte has to be looked up
abbrev pub wants_look : Form → ℕ → Bool
wants_look f byte = not (lead_bits f byte == 0)
