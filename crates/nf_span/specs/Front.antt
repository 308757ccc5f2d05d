-- The span that a text begins with, in bytes of UTF-8.
use Rattle.std.specs.Prelude.{◌≡◌, ◌⊎◌, ℕ, false, List, [], ◌∷◌, ◌++◌, chars}
use Rattle.nf_forms.specs.Properties.{Properties}
use Rattle.nf_forms.specs.Runs.{has_starter}
use Rattle.nf_forms.specs.declared.form.Form.{Form}
use Rattle.nf_forms.specs.declared.form.Form.TheVariants.{Nfkd}
use Rattle.nf_forms.specs.Forms.{decomposed}
use Rattle.nf_forms.specs.Boundary.{IsOwnBoundary}
use Rattle.nf_forms.specs.Span.{IsSpan}
use Rattle.nf_forms.specs.Laws.Sound.{IsSoundText}

-- a character before which a text may be cut, and others after it of which NFKD has non-starters alone
pub record BeginsAndMarks (p : Properties) (f : Form) (x : List ℕ) : Type 0 where
  pub first : ℕ
  pub marks : List ℕ
  pub text : x ≡ first ∷ marks
  pub own_boundary : IsOwnBoundary p f first
  pub no_starter : has_starter p (decomposed Nfkd p marks) ≡ false

-- the text is a span of sound characters, and a rest
pub record IsSpanText (p : Properties) (f : Form) (whole span rest : List ℕ) : Type 0 where
  pub text : whole ≡ span ++ rest
  pub class : ℕ
  pub count : ℕ
  pub is_span : IsSpan p f (chars span) class count
  pub sound : IsSoundText p (chars span)

-- the text begins with a span of sound characters, of which `settled` stands before the last own boundary, and
-- `tail` is the rest; either both are empty, or `tail` is not
pub record IsFirstSpan (p : Properties) (f : Form) (whole settled tail rest : List ℕ) : Type 0 where
  pub text : whole ≡ settled ++ (tail ++ rest)
  pub class : ℕ
  pub count : ℕ
  pub span : IsSpan p f (chars settled ++ chars tail) class count
  pub sound : IsSoundText p (chars settled ++ chars tail)
  pub end : ((settled ≡ []) × (tail ≡ [])) ⊎ BeginsAndMarks p f (chars tail)
