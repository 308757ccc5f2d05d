-- The normalization forms (The Unicode Standard, section 3.11, D118 to D121).
use Rattle.std.specs.Prelude.{◌≡◌, ℕ, Bool, true, false, List, [], ◌∷◌}
use Rattle.std.specs.List.{flat_map}
use Rattle.nf_forms.specs.Properties.{Properties}
use Rattle.nf_forms.specs.declared.form.Form.{Form}
use Rattle.nf_forms.specs.declared.form.Form.TheVariants.{Nfc, Nfd, Nfkc, Nfkd}
use Rattle.nf_forms.specs.Order.{order}
use Rattle.nf_forms.specs.Compose.{compose}

-- the decomposition of a character that the form asks for
abbrev pub row_of : Form → Properties → ℕ → List ℕ
row_of Nfc p = p.canonical
row_of Nfd p = p.canonical
row_of Nfkc p = p.compat
row_of Nfkd p = p.compat

-- a character decomposes no further, in any form
pub record IsOwnRow (p : Properties) (c : ℕ) : Type 0 where
  pub canonical : p.canonical c ≡ c ∷ []
  pub compat : p.compat c ≡ c ∷ []

-- each character in the place of which its decomposition stands
abbrev pub decomposed : Form → Properties → List ℕ → List ℕ
decomposed f p x = flat_map (row_of f p) x

-- whether the form ends in composition
abbrev pub composes : Form → Bool
composes Nfc = true
composes Nfd = false
composes Nfkc = true
composes Nfkd = false

-- decomposed text put in order, and then composed or not
abbrev pub arranged : Bool → Properties → List ℕ → List ℕ
arranged false p w = order p w
arranged true p w = compose p (order p w)

-- what the form makes of decomposed text
abbrev pub finished : Form → Properties → List ℕ → List ℕ
finished f p w = arranged (composes f) p w

abbrev pub normal_form : Form → Properties → List ℕ → List ℕ
normal_form f p x = finished f p (decomposed f p x)
