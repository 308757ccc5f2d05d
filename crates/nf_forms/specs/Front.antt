-- A text in two at its last starter: whatever is appended, normalization changes nothing before it (UAX #15, section 9).
use Rattle.std.specs.Prelude.{ℕ, List, [], ◌∷◌, if◌then◌else◌}
use Rattle.nf_forms.specs.Properties.{Properties}
use Rattle.nf_forms.specs.Runs.{has_starter}

-- what stands before the last starter, and nothing where there is none
abbrev pub front : Properties → List ℕ → List ℕ
front p [] = []
front p (c ∷ w) = if has_starter p w then c ∷ front p w else []

-- what stands from the last starter on, and all of it where there is none
abbrev pub back : Properties → List ℕ → List ℕ
back p [] = []
back p (c ∷ w) = if has_starter p w then back p w else c ∷ w
