use Rattle.nf_boundary.proofs.Common.{ℕ, List, IsRow, Reaches}
use Rattle.nf_boundary.proofs.front.decompose_front.Given as goal

abbrev pub invariant-loop : goal.invariant-loop
invariant-loop l = record {
  row : IsRow l.form l.next;
  reaches : (whole same : List ℕ) → Reaches l.form whole same l.fn.formed.items l.fn.first.seen → Reaches l.form whole same l.formed.items l.next.seen;
}
