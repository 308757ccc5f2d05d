use Rattle.nf_vectors.proofs.Common.{take}
use Rattle.nf_filter.specs.Checks.{HasChecked}
use Rattle.nf_vectors.proofs.comparison.leaves_format.Given as goal

abbrev pub invariant-loop-c : goal.invariant-loop-c
invariant-loop-c g l = HasChecked (g.R.Rows.properties l.rows) l.checker 0 (take l.c-index l.column)
