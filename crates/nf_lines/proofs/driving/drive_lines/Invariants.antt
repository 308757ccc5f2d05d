use Rattle.nf_lines.proofs.Common.{◌≡◌, ◌-◌, ◌^◌, Ok, length, IsFalse, Consumes, ucd, state_of, offset_of, is_spent, Lines, bytes_of, TakesLines}
use Rattle.nf_lines.proofs.driving.drive_lines.Given as goal

abbrev pub invariant-loop-given : goal.invariant-loop-given
invariant-loop-given g l = record {
  room : length l.buffer ≡ length l.fn.buffer;
  unspent : IsFalse (is_spent (state_of l.filter));
  read : (t : Lines) × Consumes (g.I.Source.state l.fn.source).coming (g.I.Source.state l.source).coming (bytes_of t)
      × TakesLines l.fn.policy l.fn.form ucd (state_of l.filter) t (g.S.Sink.state l.fn.sink) (g.S.Sink.state l.sink) (Ok tt);
  lenders : ((g.I.Source.state l.source).lender ≡ (g.I.Source.state l.fn.source).lender) × ((g.S.Sink.state l.sink).lender ≡ (g.S.Sink.state l.fn.sink).lender);
}

abbrev pub decreases-loop-given : goal.decreases-loop-given
decreases-loop-given g l = 2 ^ 64 - offset_of (state_of l.filter)
