use Rattle.nf_filter.proofs.Common.{◌≡◌, ℕ, ◌-◌, ◌^◌, List, length, IsFalse, Consumes, Form, Policy, rows_of, state_of, base_of, offset_of, is_spent, StandsAfter}
use Rattle.nf_filter.specs.Drives.{HasFed}
use Rattle.nf_filter.proofs.driving.drive_buffered.Given as goal

abbrev pub invariant-loop-given : goal.invariant-loop-given
invariant-loop-given g l = record {
  room : length l.buffer ≡ length l.fn.buffer;
  unspent : IsFalse (is_spent (state_of l.filter));
  rows : rows_of l.filter ≡ rows_of l.fn.filter;
  base : base_of (state_of l.filter) ≡ base_of (state_of l.fn.filter);
  fed : let p = g.R.Rows.properties (rows_of l.fn.filter) in
      (fed : List ℕ) × Consumes (g.I.Source.state l.fn.source).coming (g.I.Source.state l.source).coming fed
      × ((policy : Policy) (f : Form) (bytes : List ℕ) → StandsAfter policy f p (state_of l.fn.filter) bytes
      → HasFed policy f p (base_of (state_of l.fn.filter)) (state_of l.filter) bytes fed (g.S.Sink.state l.fn.sink) (g.S.Sink.state l.sink));
  lenders : ((g.I.Source.state l.source).lender ≡ (g.I.Source.state l.fn.source).lender) × ((g.S.Sink.state l.sink).lender ≡ (g.S.Sink.state l.fn.sink).lender);
}

abbrev pub decreases-loop-given : goal.decreases-loop-given
decreases-loop-given g l = 2 ^ 64 - offset_of (state_of l.filter)
