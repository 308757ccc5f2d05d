-- The runs of decomposed text that grows at its end.
use Rattle.nf_safe.proofs.Common.{◌≡◌, ℕ, ◌+◌, Bool, max, cond, List, ◌++◌, arith, if◌then◌else◌, count_by, sum_by-append, Properties, is_nonstarter, lead, trail, longest, Runs, HasRuns}
use Rattle.nf_forms.specs.Runs.{has_starter}
use Rattle.nf_forms.specs.Laws.Runs.{lead-marks, trail-append, longest-append}

-- the run that a text ends in, with text after it of which these are the ends
pub trail-after : (p : Properties) (w v : List ℕ) {some : Bool} {first last n : ℕ} → some ≡ has_starter p v → first ≡ lead p v → last ≡ trail p v → n ≡ trail p w → (if some then last else n + first) ≡ trail p (w ++ v)
trail-after p w v starts first last is = grind (arith, starts, first, last, lead-marks p v, trail-append p w v)

pub appends : {p : Properties} {runs new : Runs} {w : List ℕ} (v : List ℕ) → HasRuns p runs w → new.nonstarters ≡ runs.nonstarters + count_by (is_nonstarter p) v
    → new.longest ≡ max runs.longest (max (runs.last + lead p v) (longest p v)) → new.last ≡ trail p (w ++ v) → HasRuns p new (w ++ v)
appends {p} {w = w} v before nonstarters long last = record {
  nonstarters = omega (arith, sum_by-append (λ d. cond (is_nonstarter p d) 1 0) w v);
  longest = omega (arith, longest-append p w v);
  last = last;
}
