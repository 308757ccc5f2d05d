-- Runs of non-starters (UAX #15, section 13).
use Rattle.std.specs.Prelude.{ℕ, max, Bool, List, [], ◌∷◌}
use Rattle.std.specs.List.{prefix_len, suffix_len, list_any}
use Rattle.nf_forms.specs.Properties.{Properties, is_starter, is_nonstarter}

abbrev pub has_starter : Properties → List ℕ → Bool
has_starter p w = list_any (is_starter p) w

-- how many non-starters the text begins with
abbrev pub lead : Properties → List ℕ → ℕ
lead p w = prefix_len (is_nonstarter p) w

-- how many it ends with
abbrev pub trail : Properties → List ℕ → ℕ
trail p w = suffix_len (is_nonstarter p) w

-- the length of the longest run
abbrev pub longest : Properties → List ℕ → ℕ
longest p [] = 0
longest p (c ∷ w) = max (lead p (c ∷ w)) (longest p w)
