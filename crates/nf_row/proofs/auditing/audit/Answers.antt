use Rattle.std.proofs.Common.{rules}
use borrow.Author.Count.{below_more}
use Rattle.std.specs.Char.{IsScalar}
use Rattle.nf_forms.specs.Audit.{PassesAudit}
use Rattle.nf_row.proofs.auditing.audit.Goals as goal

pub loop-code-preserved : goal.loop-code-preserved
loop-code-preserved g c =
    below_more (λ d. IsScalar d → PassesAudit (g.R.Rows.properties c.args.rows.now) d) _ c.loop-code.invariant (λ _. rw c.in-Some.ensures.value.1 at c.in_default-first_failed.ensures)

-- It stands so that a wrong body is refused at once: without it the prover would run once more, to offer an answer.
pub returns-clause-audited : goal.returns-clause-audited
returns-clause-audited g c = search rules
