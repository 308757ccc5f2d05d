use Rattle.nf_vectors.proofs.Common.{◌≡◌, not, drop, find, string_bytes, encode_utf8_all, Columns, each, holds_at, failing_column}
use Rattle.nf_vectors.proofs.check.failure_in.Given as goal

abbrev pub invariant-loop-column : goal.invariant-loop-column
invariant-loop-column g l =
    let p = g.R.Rows.properties l.rows in
    (columns : Columns) → each l.encoded string_bytes ≡ each columns encode_utf8_all
    → find (λ column. not (holds_at l.form p columns column)) (drop l.column-index l.column-items) ≡ failing_column l.form p columns
