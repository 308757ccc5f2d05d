-- What soundness asks of one row.
use Rattle.std.specs.Prelude.{◌≡◌, ◌≤◌, ◌==◌, ◌&&◌, ◌||◌, ℕ, Bool, not, nat_le, List, [], ◌∷◌, length, bytes_eq}
use Rattle.nf_row.specs.declared.soundness.Shape.{Shape}
use Rattle.nf_forms.specs.Properties.{Properties}
use Rattle.nf_forms.specs.StreamSafe.{joiner}
use Rattle.nf_forms.specs.Sound.{max_row}
use Rattle.nf_row.specs.NonStarters.{HasNonStarters}

-- this is the shape of w, a row of at most 18 members
pub record IsShapeOf (p : Properties) (w : List ℕ) (shape : Shape) : Type 0 where
  pub few : length w ≤ max_row
  pub is_empty : shape.is_empty ≡ (length w == 0)
  pub is_joiner : shape.is_joiner ≡ bytes_eq w (joiner ∷ [])
  pub ends : HasNonStarters p w shape.ends

-- what soundness asks of two such rows, but for the joiner
abbrev pub shapes_agree : Shape → Shape → Bool
shapes_agree canonical compat = not canonical.is_empty && not compat.is_empty && nat_le canonical.ends.lead compat.ends.lead
    && nat_le canonical.ends.trail compat.ends.trail && (canonical.ends.has_starter || not compat.ends.has_starter)
