use Rattle.nf_vectors.proofs.Common.{arith, rules, ◌≡◌, ◌+◌, ◌++◌, ◌∷◌, [], take, refl, map_push, row_of, rows_in, rows_of, verdict_of, report_of, take_all}
use Rattle.std.proofs.lemmas.Grind.{common_steps}
use Rattle.nf_vectors.proofs.ReportLemmas.{report_of-push, and-counts}
use Rattle.nf_vectors.proofs.suite.Suite.check.Goals as goal

pub loop-entry-init : goal.loop-entry-init
unfolding report_of
loop-entry-init g c = record { report = refl; sum = refl; count = refl }

pub loop-entry-preserved : goal.loop-entry-preserved
loop-entry-preserved g c =
    let p = g.R.Rows.properties c.args.rows.now in
    let text = c.args.self.now.text.items in
    let entries = c.args.self.now.entries.items in
    let i = c.loop-entry.entry-index in
    let row = row_of text c.entry-item.result in
    let rows : rows_in text (take (i + 1) entries) ≡ rows_in text (take i entries) ++ row ∷ [] = grind (arith, common_steps, map_push) in
    let judged : c.in_ok-verdict.verdict ≡ verdict_of p row = search (rules, c.in_ok-verdict.ensures row refl) in
    let counts = and-counts c.loop-entry.report c.in_ok-verdict.verdict in
    record {
      report = rw (rows, report_of-push, ← judged, c.and-report.ensures) (cc);
      sum = rw c.and-report.ensures (counts.1 c.loop-entry.invariant.sum);
      count = rw c.and-report.ensures (omega (arith, counts.0));
    }

pub returns-clause-report : goal.returns-clause-report
unfolding rows_of
returns-clause-report g c = search (rules, take_all)
