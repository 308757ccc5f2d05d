-- A front of a text that is its own form.
use Rattle.std.specs.Prelude.{◌≡◌, ◌⊎◌, ℕ, List, [], ◌++◌, encode_utf8_all}
use Rattle.nf_forms.specs.declared.form.Form.{Form}
use Rattle.nf_forms.specs.Segments.{HasForm}
use Rattle.nf_forms.specs.Ucd.{ucd}
use Rattle.nf_boundary.specs.declared.seen.Seen.{Seen}
use Rattle.nf_boundary.specs.Seen.{IsAtBoundary}

-- what stands before `next`, a boundary, is nothing, or its own form
pub record Stands (f : Form) (text : List ℕ) (next : Seen) : Type 0 where
  pub front : List ℕ
  pub split : text ≡ encode_utf8_all front ++ next.text.now
  pub form : (front ≡ []) ⊎ HasForm ucd f front front
  pub after : IsAtBoundary f next
