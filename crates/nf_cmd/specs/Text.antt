-- What lines are made of.
use Rattle.std.specs.Prelude.{ℕ, ◌-◌, true, List, [], ◌∷◌, ◌++◌, length, codes, decimal, replicate}
use Rattle.std.specs.Fmt.{digits}
use Rattle.nf_forms.specs.declared.form.Form.{Form}
use Rattle.nf_forms.specs.declared.form.Form.TheVariants.{Nfc, Nfd, Nfkc, Nfkd}

-- a line of a name and a number
abbrev pub line : List ℕ → ℕ → List ℕ
line name number = name ++ (32 ∷ (decimal number ++ 10 ∷ []))

-- the name of a form
abbrev pub name_of : Form → List ℕ
name_of Nfc = codes "nfc"
name_of Nfd = codes "nfd"
name_of Nfkc = codes "nfkc"
name_of Nfkd = codes "nfkd"

-- digits with zeros before them up to four
abbrev pub padded : List ℕ → List ℕ
padded shown = replicate (4 - length shown) 48 ++ shown

-- a code point in upper case hexadecimal digits, at least four (The Unicode Standard, appendix A)
unfoldable pub code_digits : ℕ → List ℕ
code_digits c = padded (digits 16 true c)
