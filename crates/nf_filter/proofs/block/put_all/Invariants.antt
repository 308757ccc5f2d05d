use Rattle.nf_filter.proofs.Common.{◌≡◌, ◌≤◌, ◌-◌, length, take, [], Puts}
use Rattle.nf_filter.proofs.block.put_all.Given as goal

abbrev pub invariant-loop-at : goal.invariant-loop-at
invariant-loop-at g l = record {
  within : l.at ≤ length l.bytes;
  puts : Puts (g.S.Sink.state l.fn.sink) (g.S.Sink.state l.sink) [] (take l.at l.bytes);
  lender : (g.S.Sink.state l.sink).lender ≡ (g.S.Sink.state l.fn.sink).lender;
}

abbrev pub decreases-loop-at : goal.decreases-loop-at
decreases-loop-at g l = length l.bytes - l.at
