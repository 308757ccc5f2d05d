use Rattle.nf_filter.proofs.Common.{◌≡◌, ℕ, ◌+◌, List, length, Form, Start, block_state, ReadsTo, ends_at, IsReady}
use Rattle.nf_filter.proofs.FedLemmas.{left_of}
use Rattle.nf_filter.proofs.reading.Reading.read_rest.Given as goal

abbrev pub invariant-loop-left : goal.invariant-loop-left
invariant-loop-left g l = record {
  ready : IsReady (ends_at l.counted) l.self;
  offset : l.self.offset + length l.left ≡ l.fn.self.offset + length l.piece;
  reads : (f : Form) (base : ℕ) (bytes : List ℕ) (start : Start)
      → ReadsTo l.policy f (g.R.Rows.properties l.rows) l.fn.counted start (block_state (g.S.Sink.state l.fn.sink) l.fn.block) base l.fn.self bytes l.piece
      → ReadsTo l.policy f (g.R.Rows.properties l.rows) l.counted start (block_state (g.S.Sink.state l.sink) l.block) base l.self bytes l.left;
  lender : (g.S.Sink.state l.sink).lender ≡ (g.S.Sink.state l.fn.sink).lender;
}

abbrev pub decreases-loop-left : goal.decreases-loop-left
decreases-loop-left g l = left_of (length l.left) (length l.self.decoder)
