-- Which characters of a text are looked up.
use Rattle.std.specs.Prelude.{◌≡◌, ℕ, ◌+◌, ◌<◌, ◌≤◌, ◌⊎◌, List, slice_index}
use Rattle.std.specs.Int.{bit_at}
use Rattle.nf_lanes.specs.Looks.{is_in, NoneFound}
use Rattle.nf_lanes.specs.Scripts.{IsToldInScript}
use Rattle.nf_counts.specs.declared.scripts.TheConstants.{SCRIPTS, WIDE}
use Rattle.nf_counts.specs.declared.window.Window.{Window}

-- the character that begins at k is not looked up: a family tells it
abbrev pub IsTold : List ℕ → ℕ → Type 0
IsTold text k = NoneFound (is_in WIDE) text k ⊎ IsToldInScript SCRIPTS text k

-- of the characters that begin from one place on and before another none has more bytes than one and is looked up
abbrev pub AreTold : List ℕ → ℕ → ℕ → Type 0
AreTold text from to = (k : ℕ) → from ≤ k → k < to → 0xC0 ≤ slice_index text k → IsTold text k

-- before `base` stands no more of them, from a place on that is the end of a character
pub record AreAsked (text : List ℕ) (at base : ℕ) : Type 0 where
  pub told : AreTold text at base
  pub inner : (k : ℕ) → base ≤ k → k < at → slice_index text k < 0xC0

-- from there on the window has those that begin in its 63 bytes
pub record AreLeft (text : List ℕ) (at : ℕ) (window : Window) : Type 0 where
  pub before : AreTold text at window.base
  pub inner : (k : ℕ) → window.base + 63 ≤ k → k < at → slice_index text k < 0xC0
  pub leads : (k : ℕ) → k < 64 → bit_at window.found k ≡ 1 → (k < 63) × (at ≤ window.base + k) × (0xC0 ≤ slice_index text (window.base + k))
  pub told : (k : ℕ) → k < 63 → bit_at window.found k ≡ 0 → at ≤ window.base + k → 0xC0 ≤ slice_index text (window.base + k) → IsTold text (window.base + k)

-- there is the next, and after its character the window has the others
pub record IsNext (text : List ℕ) (at place : ℕ) (window : Window) : Type 0 where
  pub order : at ≤ place
  pub within : place < window.base + 63
  pub lead : 0xC0 ≤ slice_index text place
  pub told : AreTold text at place
  pub others : (after : ℕ) → place < after → ((k : ℕ) → place < k → k < after → slice_index text k < 0xC0) → AreLeft text after window
