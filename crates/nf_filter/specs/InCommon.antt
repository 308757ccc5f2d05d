-- What two lists have in common at their front.
use Rattle.std.specs.Prelude.{ℕ, ◌==◌, Bool, false, suc, List, [], ◌∷◌, if◌then◌else◌}

-- how many members two lists have in common at their front
abbrev pub common : List ℕ → List ℕ → ℕ
common [] y = 0
common (a ∷ x) [] = 0
common (a ∷ x) (b ∷ y) = if a == b then suc (common x y) else 0

-- the bytes go on with this one
abbrev pub goes_on_with : ℕ → List ℕ → Bool
goes_on_with byte [] = false
goes_on_with byte (a ∷ bytes) = a == byte
