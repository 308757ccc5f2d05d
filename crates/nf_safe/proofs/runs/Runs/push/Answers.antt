use Rattle.nf_safe.proofs.Common.{[], ◌∷◌, arith}
use Rattle.nf_forms.specs.Laws.Runs.{trail-push}
use Rattle.nf_safe.proofs.RunsLemmas.{appends}
use Rattle.nf_safe.proofs.runs.Runs.push.Goals as goal

pub returns-then-starter-clause-runs : goal.returns-then-starter-clause-runs
returns-then-starter-clause-runs c = λ p w d is before. appends (d ∷ []) before (grind arith) (grind arith) (grind (arith, trail-push p w d))

pub returns-clause-runs : goal.returns-clause-runs
returns-clause-runs c = λ p w d is before. appends (d ∷ []) before (grind arith) (grind arith) (grind (arith, trail-push p w d))
