-- A text from one normalization boundary to another, piece by piece.
use Rattle.std.specs.Prelude.{◌≡◌, ◌⊎◌, ℕ, List, [], ◌++◌, chars, encode_utf8_all}
use Rattle.nf_forms.specs.declared.form.Form.{Form}
use Rattle.nf_forms.specs.Segments.{HasForm}
use Rattle.nf_forms.specs.Ucd.{ucd}
use Rattle.nf_boundary.specs.declared.seen.Seen.{Seen}
use Rattle.nf_boundary.specs.Seen.{IsAtBoundary}

-- a piece of the text is closed, after which a boundary comes, and its form was appended
pub record Closes (f : Form) (text : List ℕ) (next : Seen) (old new : List ℕ) : Type 0 where
  pub piece : List ℕ
  pub more : List ℕ
  pub split : text ≡ encode_utf8_all piece ++ next.text.now
  pub form : HasForm ucd f piece more
  pub formed : new ≡ old ++ encode_utf8_all more
  pub after : IsAtBoundary f next

-- the text is a front, which is closed where it is not empty, and a boundary comes after it; the form of the front is
-- `same` as it stands and then `formed`, in UTF-8
pub record Reaches (f : Form) (whole same formed : List ℕ) (next : Seen) : Type 0 where
  pub front : List ℕ
  pub split : whole ≡ encode_utf8_all front ++ next.text.now
  pub more : List ℕ
  pub put : formed ≡ encode_utf8_all more
  pub form : ((front ≡ []) × (same ≡ []) × (more ≡ [])) ⊎ HasForm ucd f front (chars same ++ more)
  pub after : IsAtBoundary f next
