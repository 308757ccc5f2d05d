use Rattle.nf_filter.proofs.Common.{◌≡◌, drop, are_marks}
use Rattle.nf_filter.proofs.saved.is_pending.Given as goal

abbrev pub invariant-loop-mark : goal.invariant-loop-mark
invariant-loop-mark g l = are_marks (g.R.Rows.properties l.rows) 1 l.marks ≡ are_marks (g.R.Rows.properties l.rows) l.least (drop l.mark-index l.marks)
