use Rattle.nf_vectors.proofs.Common.{◌≡◌, ◌+◌, take, rows_in, report_of}
use Rattle.nf_vectors.proofs.suite.Suite.check.Given as goal

abbrev pub invariant-loop-entry : goal.invariant-loop-entry
invariant-loop-entry g l = record {
  report : l.report ≡ report_of (g.R.Rows.properties l.rows) (rows_in l.self.text.items (take l.entry-index l.self.entries.items));
  sum : l.report.rows ≡ l.report.passed + l.report.failed + l.report.skipped;
  count : l.report.rows ≡ l.entry-index;
}
