-- Text, and the ill-formed part after it, which is read as U+FFFD (The Unicode Standard, section 3.9, "Substitution of Maximal
-- Subparts").
use Rattle.std.specs.Prelude.{◌≡◌, ◌+◌, ◌<◌, ◌≤◌, true, ℕ, List, [], ◌∷◌, ◌++◌, length, take, drop, chars, IsUtf8}
use Rattle.std.specs.Str.Lossy.{replacement_bytes}
use Rattle.nf_utf8.specs.Left.{IsLeft}
use Rattle.nf_utf8.specs.Replaced.{replacement}
use Rattle.nf_utf8.specs.declared.lossy.Stretch.{Stretch}

-- the bytes begin with a text, and the ill-formed part after it
pub record IsStretch (bytes : List ℕ) (stretch : Stretch) : Type 0 where
  pub within : stretch.text ≤ length bytes
  pub utf8 : IsUtf8 (take stretch.text bytes)
  pub part : stretch.text < stretch.len
  pub front : IsLeft true bytes (chars (take stretch.text bytes) ++ replacement ∷ []) stretch.len (drop stretch.len bytes)

-- a stretch that the bytes begin with is put as text after the first n bytes of a room
pub record IsPut (bytes old : List ℕ) (n : ℕ) (stretch : Stretch) (new : List ℕ) : Type 0 where
  pub is : IsStretch bytes stretch
  pub few : stretch.text ≤ 64
  pub text : take (n + stretch.text + 3) new ≡ take n old ++ take stretch.text bytes ++ replacement_bytes
