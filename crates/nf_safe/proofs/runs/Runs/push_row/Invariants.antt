use Rattle.nf_safe.proofs.Common.{◌≤◌, ◌+◌, ℕ, List, ◌++◌, take, HasRuns}
use Rattle.nf_safe.proofs.runs.Runs.push_row.Given as goal

abbrev pub invariant-loop-c : goal.invariant-loop-c
invariant-loop-c g l = record {
  few : l.self.nonstarters ≤ l.fn.self.nonstarters + l.c-index;
  runs : (w : List ℕ) → HasRuns (g.R.Rows.properties l.rows) l.fn.self w → HasRuns (g.R.Rows.properties l.rows) l.self (w ++ take l.c-index l.row);
}
