-- A character with its decomposition beside it, one that is taken apart, and one that is its own form.
use Rattle.std.proofs.Common.{arith, ◌≡◌, ℕ, false, List, [], ◌∷◌, ◌==◌, length, ◌∙◌, IsTrue}
use Rattle.std.proofs.Math.Seq.{drop-cons}
use Rattle.nf_boundary.proofs.Common.{nat_tests, HasForm, composes, HasForm-row, Form, row_of, is_sound, NeverSecond, HasBoundaryBefore, IsOwnBoundary, ucd, kit_form, is_syllable, Seen, IsRow, IsAtBoundary}
use Rattle.ucd_normal.specs.declared.forms.Form.{Form as KitForm}
use Rattle.unicode_normalization.specs.Decompose.{table_of, decompose}
use Rattle.nf_boundary.specs.declared.rows.Row.{Row}
use Rattle.nf_forms.specs.Forms.{normal_form}
use Rattle.nf_forms.specs.Laws.Segments.{HasForm-alone}
use Rattle.nf_forms.specs.Ordering.{is_ordered}
use Rattle.nf_row.specs.Laws.Tables.{row_is}

-- its row begins with a starter that composes with nothing before it
pub row_boundary : (f : Form) (c first : ℕ) (rest : List ℕ) → decompose (kit_form f) c ≡ first ∷ rest → IsOwnBoundary ucd f first → NeverSecond ucd f first → HasBoundaryBefore ucd f c
row_boundary f c first rest is own_boundary never = grind (arith, row_is f c)

-- what the tables have of a character is its row, where it is no syllable of Hangul
pub table_row : (form : KitForm) (c : ℕ) → is_syllable c ≡ false → (first : ℕ) (rest : List ℕ) → table_of form c ≡ first ∷ rest → table_of form c ≡ decompose form c
unfolding decompose
table_row form c other first rest is = rw (other, is)

-- a character that alone is its own form
pub form_own : (f : Form) (first : Seen) → IsAtBoundary f first → normal_form f ucd (first.character ∷ []) ≡ first.character ∷ [] → HasForm ucd f (first.character ∷ []) (first.character ∷ [])
form_own f first at alone = rw alone at (HasForm-alone ucd f first.character at.boundary at.sound)

module _ (f : Form) (first : Seen) (at : IsAtBoundary f first) (sound_one : (c : ℕ) → IsTrue (is_sound ucd c)) where
  -- the form of one that is taken apart is its row
  pub form_apart : composes f ≡ false → ((c : ℕ) → IsTrue (is_ordered ucd (ucd.canonical c))) → ((c : ℕ) → IsTrue (is_ordered ucd (ucd.compat c))) → HasForm ucd f (first.character ∷ []) (decompose (kit_form f) first.character)
  form_apart plain canonical compat = rw row_is (HasForm-row ucd f plain first.character at.boundary (sound_one first.character) (grind (arith, canonical first.character, compat first.character)))

-- the members that it has
pub row_members : (f : Form) (row : Row) → IsRow f row → (length row.members.now == 0) ≡ false → row.members.now ≡ row_of f ucd row.seen.character
row_members f row is some = is.members _ _ (drop-cons row.members.now 0 0 (grind (arith, nat_tests))) ∙ row_is f row.seen.character
