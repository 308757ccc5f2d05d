use Rattle.std.proofs.Common.{◌≤◌, List, ℕ, length}
use Rattle.nf_span.specs.Scan.{Reaches}
use Rattle.nf_span.specs.Window.{IsWindow}
use Rattle.nf_span.proofs.scan.Scan.over_window.Given as goal

abbrev pub invariant-loop-next : goal.invariant-loop-next
invariant-loop-next l = record {
  span : (text : List ℕ) → Reaches l.form text l.self → Reaches l.form text l.scan;
  within : length l.scan.rest.now ≤ length l.self.rest.now;
  window : IsWindow l.form l.scan.rest.now l.left;
}

abbrev pub decreases-loop-next : goal.decreases-loop-next
decreases-loop-next l = length l.scan.rest.now
