-- Where a counter stands in the rows that it has stepped over.
use Rattle.std.specs.Prelude.{◌≡◌, ℕ, List}
use Rattle.nf_forms.specs.Properties.{Properties}
use Rattle.nf_forms.specs.Runs.{trail}
use Rattle.nf_safe.specs.Count.{since_last}

-- it counts the non-starters at the end of the rows joined since the last step that answered true, that one included
abbrev pub StandsAfter : Properties → ℕ → List (List ℕ) → Type 0
StandsAfter p count rows = count ≡ trail p (since_last p rows)
