-- Bytes that are cut after their last line feed.
use Rattle.std.specs.Prelude.{◌≡◌, ◌≤◌, ◌==◌, ◌⊎◌, false, ℕ, List, [], ◌∷◌, ◌++◌, length, take, drop}
use Rattle.std.specs.List.{list_any}
use Rattle.nf_facts.specs.LineFeed.{line_feed}

-- their last byte is a line feed
abbrev pub EndsInLineFeed : List ℕ → Type 0
EndsInLineFeed bytes = (front : List ℕ) × (bytes ≡ front ++ line_feed ∷ [])

-- whole lines, or none
abbrev pub AreLines : List ℕ → Type 0
AreLines bytes = (bytes ≡ []) ⊎ EndsInLineFeed bytes

-- no line ends in them
abbrev pub HasNoLineFeed : List ℕ → Type 0
HasNoLineFeed bytes = list_any (λ b. b == line_feed) bytes ≡ false

-- the first n are the whole lines
pub record IsCutAt (bytes : List ℕ) (n : ℕ) : Type 0 where
  pub within : n ≤ length bytes
  pub lines : AreLines (take n bytes)
  pub rest : HasNoLineFeed (drop n bytes)
