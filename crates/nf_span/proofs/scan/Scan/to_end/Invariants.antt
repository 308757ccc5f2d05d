use Rattle.std.proofs.Common.{length}
use Rattle.nf_span.specs.Scan.{Reaches}
use Rattle.nf_span.specs.Window.{IsPlainFront}
use Rattle.nf_span.proofs.scan.Scan.to_end.Given as goal

abbrev pub invariant-loop-next : goal.invariant-loop-next
invariant-loop-next g l = record {
  span : Reaches l.form l.fn.text l.scan;
  plain : IsPlainFront l.form l.scan.rest.now l.plain;
}

abbrev pub decreases-loop-next : goal.decreases-loop-next
decreases-loop-next g l = length l.scan.rest.now
