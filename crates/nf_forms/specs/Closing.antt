-- What the data must say of a character for a text to be cut after it: nothing that follows changes it, and the count of
-- the Stream-Safe Text Process is 0 there (UAX #15, sections 9 and 13).
use Rattle.std.specs.Prelude.{◌≡◌, ℕ, true, [], ◌∷◌, None}
use Rattle.nf_forms.specs.Properties.{Properties, is_starter}
use Rattle.nf_forms.specs.Compose.{composite}
use Rattle.nf_forms.specs.declared.form.Form.{Form}
use Rattle.nf_forms.specs.Forms.{row_of, composes}
use Rattle.nf_forms.specs.Boundary.{NeverSecond}

-- in a composing form it composes with nothing after it
abbrev pub NeverFirst : Properties → Form → ℕ → Type 0
NeverFirst p f c = composes f ≡ true → (b : ℕ) → composite p c b ≡ None

-- a starter that is its own row, of both kinds, and composes with nothing
pub record IsClosing (p : Properties) (f : Form) (c : ℕ) : Type 0 where
  pub starts : is_starter p c ≡ true
  pub row : row_of f p c ≡ c ∷ []
  pub compat : p.compat c ≡ c ∷ []
  pub never_second : NeverSecond p f c
  pub never_first : NeverFirst p f c
