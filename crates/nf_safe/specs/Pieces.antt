-- A text cut into pieces that are in the Stream-Safe Text Format (UAX #15, section 13, UAX15-D3), each as long as can be.
use Rattle.std.specs.Prelude.{◌≡◌, ℕ, ◌<◌, List, [], ◌∷◌, ◌++◌, length}
use Rattle.nf_forms.specs.Properties.{Properties}
use Rattle.nf_forms.specs.StreamSafe.{joiner}
use Rattle.nf_safe.specs.LongestFront.{longest_front}
use Rattle.nf_safe.specs.Place.{is_in_format}

-- from the left, each piece the longest front of what is left that is in the format
abbrev pub IsGreedyCut : Properties → List ℕ → List (List ℕ) → Type 0
IsGreedyCut p x [] = x ≡ []
IsGreedyCut p x (piece ∷ pieces) = (rest : List ℕ) × (x ≡ piece ++ rest) × (0 < length piece)
    × (length piece ≡ longest_front (is_in_format p) x) × IsGreedyCut p rest pieces

-- the pieces one after the other, with a joiner between each two
abbrev pub rejoined : List (List ℕ) → List ℕ
rejoined [] = []
rejoined (piece ∷ []) = piece
rejoined (piece ∷ next ∷ pieces) = piece ++ joiner ∷ rejoined (next ∷ pieces)
