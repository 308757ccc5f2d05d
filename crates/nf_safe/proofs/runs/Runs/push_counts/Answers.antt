use Rattle.nf_safe.proofs.Common.{arith}
use Rattle.nf_safe.proofs.RunsLemmas.{appends, trail-after}
use Rattle.nf_safe.proofs.runs.Runs.push_counts.Goals as goal

pub returns-clause-runs : goal.returns-clause-runs
returns-clause-runs c = λ p w v has before. appends v before (omega arith) (omega arith) (grind (arith, trail-after p w v has.has_starter has.lead has.trail before.last))
