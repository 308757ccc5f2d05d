use Rattle.std.proofs.Common.{◌-◌, length}
use Rattle.nf_span.specs.Window.{IsPlainFront}
use Rattle.nf_span.proofs.lanes.look_ahead.Given as goal

abbrev pub invariant-loop-at : goal.invariant-loop-at
invariant-loop-at l = IsPlainFront l.form l.bytes l.at

abbrev pub decreases-loop-at : goal.decreases-loop-at
decreases-loop-at l = length l.bytes - l.at
