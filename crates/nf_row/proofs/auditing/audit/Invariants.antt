use Rattle.std.proofs.Common.{ℕ, ◌<◌}
use Rattle.std.specs.Char.{IsScalar}
use Rattle.nf_forms.specs.Audit.{PassesAudit}
use Rattle.nf_row.proofs.auditing.audit.Given as goal

abbrev pub invariant-loop-code : goal.invariant-loop-code
invariant-loop-code g l = (c : ℕ) → c < l.code → IsScalar c → PassesAudit (g.R.Rows.properties l.rows) c
