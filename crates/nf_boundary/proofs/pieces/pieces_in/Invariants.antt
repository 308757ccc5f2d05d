use Rattle.nf_boundary.proofs.Common.{ℕ, List, length, IsRow, Reaches}
use Rattle.nf_span.specs.Scan.{form_of}
use Rattle.nf_boundary.proofs.pieces.pieces_in.Given as goal

abbrev pub invariant-loop-after : goal.invariant-loop-after
invariant-loop-after g l = record {
  row : IsRow (form_of g.row.FORM) l.next;
  reaches : (whole same : List ℕ) → Reaches (form_of g.row.FORM) whole same l.fn.formed.items l.fn.first.seen → Reaches (form_of g.row.FORM) whole same l.formed.items l.next.seen;
}

abbrev pub decreases-loop-after : goal.decreases-loop-after
decreases-loop-after g l = length l.next.seen.text.now
