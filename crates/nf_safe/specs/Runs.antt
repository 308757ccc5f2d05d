-- The non-starters of decomposed text and its runs of them.
use Rattle.std.specs.Prelude.{◌≡◌, ℕ, List, count_by}
use Rattle.nf_forms.specs.Properties.{Properties, is_nonstarter}
use Rattle.nf_forms.specs.Runs.{trail, longest}
use Rattle.nf_safe.specs.declared.runs.Runs.{Runs}

-- these are those of w
pub record HasRuns (p : Properties) (runs : Runs) (w : List ℕ) : Type 0 where
  pub nonstarters : runs.nonstarters ≡ count_by (is_nonstarter p) w
  pub longest : runs.longest ≡ longest p w
  pub last : runs.last ≡ trail p w
