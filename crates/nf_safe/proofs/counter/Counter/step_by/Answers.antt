use Rattle.nf_safe.proofs.Common.{arith, trail-since_last-push}
use Rattle.std.proofs.lemmas.Bool.Decides.{nat_tests}
use Rattle.nf_forms.specs.Laws.Runs.{lead-marks}
use Rattle.nf_safe.proofs.counter.Counter.step_by.Goals as goal
use Rattle.nf_safe.proofs.counter.Counter.step_by.Goals.{then-k, else-k+then-is_too_long, else-k+else-is_too_long}

pub returns-clause-answer : goal.returns-clause-answer
returns-clause-answer c = λ p row ends. grind (arith, nat_tests)

pub returns-clause-count : goal.returns-clause-count
returns-clause-count c = λ p row ends. grind (arith, nat_tests, lead-marks p row)

pub returns-clause-stands : goal.returns-clause-stands
returns-clause-stands c = λ p row ends rows before.
    rw (trail-since_last-push p rows row, ← before) (returns-clause-count c p row ends)
