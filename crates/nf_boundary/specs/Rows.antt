-- A character with its decomposition beside it.
use Rattle.std.specs.Prelude.{◌≡◌, ℕ, List, ◌∷◌}
use Rattle.unicode_normalization.specs.Decompose.{decompose}
use Rattle.nf_forms.specs.declared.form.Form.{Form}
use Rattle.nf_facts.specs.KitForm.{kit_form}
use Rattle.nf_boundary.specs.declared.rows.Row.{Row}
use Rattle.nf_boundary.specs.Seen.{IsAtBoundary}

-- a text may be cut before it; where it has members, they are those of its decomposition
pub record IsRow (f : Form) (row : Row) : Type 0 where
  pub at : IsAtBoundary f row.seen
  pub members : (first : ℕ) (others : List ℕ) → row.members.now ≡ first ∷ others → row.members.now ≡ decompose (kit_form f) row.seen.character
