-- A front of a text that ends before a normalization boundary, in bytes of UTF-8.
use Rattle.std.specs.Prelude.{◌≡◌, ℕ, List, ◌++◌, chars, encode_utf8_all}
use Rattle.nf_forms.specs.Properties.{Properties}
use Rattle.nf_forms.specs.declared.form.Form.{Form}
use Rattle.nf_forms.specs.Segments.{BeginsAtBoundary, HasForm}

-- the text is a front, whose form is `same` as it stands and then `formed`, in UTF-8, and `rest`, which begins at a boundary
pub record IsFirstSegments (p : Properties) (f : Form) (whole same formed rest : List ℕ) : Type 0 where
  pub front : List ℕ
  pub text : whole ≡ front ++ rest
  pub characters : chars whole ≡ chars front ++ chars rest
  pub more : List ℕ
  pub put : formed ≡ encode_utf8_all more
  pub form : HasForm p f (chars front) (chars same ++ more)
  pub next : BeginsAtBoundary p f (chars rest)
