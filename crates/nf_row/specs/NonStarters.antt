-- How a text begins and ends.
use Rattle.std.specs.Prelude.{◌≡◌, ℕ, List}
use Rattle.nf_row.specs.declared.non_starters.NonStarters.{NonStarters}
use Rattle.nf_forms.specs.Properties.{Properties}
use Rattle.nf_forms.specs.Runs.{lead, trail, has_starter}

-- these are the ends of w
pub record HasNonStarters (p : Properties) (w : List ℕ) (ends : NonStarters) : Type 0 where
  pub has_starter : ends.has_starter ≡ has_starter p w
  pub lead : ends.lead ≡ lead p w
  pub trail : ends.trail ≡ trail p w
