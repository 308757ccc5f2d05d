use Rattle.nf_filter.proofs.Common.{◌≡◌, ℕ, ◌+◌, List, length, IsReady, ReadsText}
use Rattle.nf_filter.proofs.FedLemmas.{left_of}
use Rattle.nf_filter.proofs.text_reader.read_piece.Given as goal

abbrev pub invariant-loop-left : goal.invariant-loop-left
invariant-loop-left g l = record {
  ready : IsReady (g.T.Taker.ends_at l.taker) l.reading;
  offset : l.reading.offset + length l.left ≡ l.fn.reading.offset + length l.piece;
  reads : (base : ℕ) (bytes : List ℕ) → ReadsText (g.T.Taker.has_taken (g.R.Rows.properties l.rows) l.fn.taker base) base l.fn.reading bytes l.piece
      → ReadsText (g.T.Taker.has_taken (g.R.Rows.properties l.rows) l.taker base) base l.reading bytes l.left;
}

abbrev pub decreases-loop-left : goal.decreases-loop-left
decreases-loop-left g l = left_of (length l.left) (length l.reading.decoder)
