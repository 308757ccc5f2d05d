-- Segments: they begin at a normalization boundary (UAX #15, section 9), and after them comes another. So their form
-- is decided, whatever stands before it and after.
use Rattle.std.specs.Prelude.{◌≡◌, true, ℕ, List, ◌∷◌}
use Rattle.nf_forms.specs.Properties.{Properties}
use Rattle.nf_forms.specs.declared.form.Form.{Form}
use Rattle.nf_forms.specs.Forms.{normal_form}
use Rattle.nf_forms.specs.StreamSafe.{stream_safe}
use Rattle.nf_forms.specs.Sound.{is_sound}
use Rattle.nf_forms.specs.Boundary.{IsBoundary}
use Rattle.nf_forms.specs.Laws.Sound.{IsSoundText}

-- it begins with a sound character before which a text may be cut
pub record BeginsAtBoundary (p : Properties) (f : Form) (cs : List ℕ) : Type 0 where
  pub first : ℕ
  pub rest : List ℕ
  pub text : cs ≡ first ∷ rest
  pub boundary : IsBoundary p f first
  pub sound : is_sound p first ≡ true

-- sound text from a boundary on, into which nothing is put, and which has this form
pub record HasForm (p : Properties) (f : Form) (cs formed : List ℕ) : Type 0 where
  pub begins : BeginsAtBoundary p f cs
  pub sound : IsSoundText p cs
  pub safe : stream_safe p cs ≡ cs
  pub form : normal_form f p cs ≡ formed
