use Rattle.nf_boundary.proofs.Common.{ℕ, List, length, IsAtBoundary, Reaches}
use Rattle.nf_boundary.proofs.apart.take_front_apart.Given as goal

abbrev pub invariant-loop-after : goal.invariant-loop-after
invariant-loop-after l = record {
  at : IsAtBoundary l.form l.next;
  reaches : (whole same : List ℕ) → Reaches l.form whole same l.fn.formed.items l.fn.first → Reaches l.form whole same l.formed.items l.next;
}

abbrev pub decreases-loop-after : goal.decreases-loop-after
decreases-loop-after l = length l.next.text.now
