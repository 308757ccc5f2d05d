-- Two forms one after the other are one form (UAX #15, section 1.2): compatibility decomposition, once taken, stays, and
-- the second form decides whether the text is composed.
use Rattle.nf_forms.specs.declared.form.Form.{Form}
use Rattle.nf_forms.specs.declared.form.Form.TheVariants.{Nfc, Nfd, Nfkc, Nfkd}

-- the form by compatibility decompositions that composes where this one does
abbrev pub compatible : Form → Form
compatible Nfc = Nfkc
compatible Nfd = Nfkd
compatible Nfkc = Nfkc
compatible Nfkd = Nfkd

-- what g makes of a text in f
abbrev pub after : Form → Form → Form
after g Nfc = g
after g Nfd = g
after g Nfkc = compatible g
after g Nfkd = compatible g
