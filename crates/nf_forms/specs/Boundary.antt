-- What the data must say of a character for a text to be cut before it: a normalization boundary (UAX #15, section 9)
-- at which the count of the Stream-Safe Text Process is reset too (section 13).
use Rattle.std.specs.Prelude.{◌≡◌, ℕ, true, List, [], ◌∷◌, None}
use Rattle.nf_forms.specs.Properties.{Properties, is_starter}
use Rattle.nf_forms.specs.Runs.{has_starter, lead}
use Rattle.nf_forms.specs.Compose.{composite}
use Rattle.nf_forms.specs.declared.form.Form.{Form}
use Rattle.nf_forms.specs.Forms.{row_of, composes, normal_form}

-- in a composing form it composes with nothing before it
abbrev pub NeverSecond : Properties → Form → ℕ → Type 0
NeverSecond p f c = composes f ≡ true → (a : ℕ) → composite p a c ≡ None

-- a boundary stands before it: the row that the form asks for begins with a starter that composes with nothing before it
pub record HasBoundaryBefore (p : Properties) (f : Form) (c : ℕ) : Type 0 where
  pub first : ℕ
  pub rest : List ℕ
  pub row : row_of f p c ≡ first ∷ rest
  pub starter : is_starter p first ≡ true
  pub never_second : NeverSecond p f first

-- the compatibility row begins with a starter
pub record ResetsCount (p : Properties) (c : ℕ) : Type 0 where
  pub lead : lead p (p.compat c) ≡ 0
  pub some : has_starter p (p.compat c) ≡ true

-- a text may be cut before it
pub record IsBoundary (p : Properties) (f : Form) (c : ℕ) : Type 0 where
  pub boundary_before : HasBoundaryBefore p f c
  pub counts : ResetsCount p c

-- an own boundary: a starter of both kinds, whose form alone is itself
pub record IsOwnBoundary (p : Properties) (f : Form) (c : ℕ) : Type 0 where
  pub starts : is_starter p c ≡ true
  pub boundary_before : HasBoundaryBefore p f c
  pub counts : ResetsCount p c
  pub alone : normal_form f p (c ∷ []) ≡ c ∷ []
