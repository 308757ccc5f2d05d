use Rattle.nf_vectors.proofs.Common.{◌≡◌, rows_of, sweep_below}
use Rattle.nf_vectors.proofs.suite.Suite.sweep.Given as goal

abbrev pub invariant-loop-code : goal.invariant-loop-code
invariant-loop-code g l = l.sweep ≡ sweep_below (g.R.Rows.properties l.rows) (rows_of l.self) l.code
