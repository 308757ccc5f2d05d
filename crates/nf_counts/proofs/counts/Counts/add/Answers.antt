use Rattle.std.proofs.Common.{cond, arith}
use Rattle.std.proofs.lemmas.Bool.Decides.{nat_tests}
use Rattle.std.proofs.lemmas.List.Sums.{sum_by-append}
use Rattle.nf_forms.specs.Laws.Runs.{has_starter-append, lead-append, trail-append, longest-append, lead-marks, trail-marks}
use Rattle.nf_forms.specs.Properties.{is_nonstarter}
use Rattle.nf_counts.proofs.counts.Counts.add.Goals as goal

pub returns-then-value-lt4-clause-counts : goal.returns-then-value-lt4-clause-counts
returns-then-value-lt4-clause-counts c = λ _ p w row value before.
    grind (arith, nat_tests, lead-marks p w, has_starter-append p w row, lead-append p w row, trail-append p w row, longest-append p w row, sum_by-append (λ d. cond (is_nonstarter p d) 1 0) w row)

pub returns-then-value-eq-UNASSIGNED-clause-counts : goal.returns-then-value-eq-UNASSIGNED-clause-counts
returns-then-value-eq-UNASSIGNED-clause-counts c = λ _ p w row value before.
    grind (arith, nat_tests, lead-marks p w, has_starter-append p w row, lead-append p w row, trail-append p w row, longest-append p w row, sum_by-append (λ d. cond (is_nonstarter p d) 1 0) w row)

pub returns-then-value-gt-UNASSIGNED-clause-counts : goal.returns-then-value-gt-UNASSIGNED-clause-counts
returns-then-value-gt-UNASSIGNED-clause-counts c = λ _ p w row value before.
    grind (arith, nat_tests, lead-marks p w, has_starter-append p w row, lead-append p w row, trail-append p w row, longest-append p w row, sum_by-append (λ d. cond (is_nonstarter p d) 1 0) w row)

pub returns-clause-counts : goal.returns-clause-counts
returns-clause-counts c = λ _ p w row value before.
    grind (arith, nat_tests, trail-marks p row, trail-marks p w, has_starter-append p w row, lead-append p w row, trail-append p w row, longest-append p w row, sum_by-append (λ d. cond (is_nonstarter p d) 1 0) w row)
