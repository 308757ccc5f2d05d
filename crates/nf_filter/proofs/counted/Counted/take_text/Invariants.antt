use Rattle.nf_filter.proofs.Common.{◌≡◌, ℕ, ◌+◌, ◌≤◌, List, length, IsUtf8, characters, Form, IsWithin, Start, block_state, IsPlacedAt, Standing, StandsInFront}
use Rattle.nf_filter.proofs.counted.Counted.take_text.Given as goal

abbrev pub invariant-loop-rest : goal.invariant-loop-rest
invariant-loop-rest g l = record {
  utf8 : IsUtf8 l.rest;
  left : length l.rest ≤ length l.text;
  within : IsWithin l.self.normalizer;
  chars : l.self.chars ≡ l.fn.self.chars;
  put : l.self.put + length (characters l.rest) ≤ l.fn.self.put + length (characters l.text);
  stands : (f : Form) (place : List ℕ → ℕ) (x : List ℕ) (start : Start) → Standing f (g.R.Rows.properties l.rows) l.fn.self start (block_state (g.S.Sink.state l.fn.sink) l.fn.block) x (characters l.text)
      → IsPlacedAt place l.fn.origin.begin l.fn.origin.bytes.now 0 x (characters l.text) → StandsInFront f (g.R.Rows.properties l.rows) l.self start (block_state (g.S.Sink.state l.sink) l.block) x l.text l.rest;
  lender : (g.S.Sink.state l.sink).lender ≡ (g.S.Sink.state l.fn.sink).lender;
}

abbrev pub decreases-loop-rest : goal.decreases-loop-rest
decreases-loop-rest g l = length l.rest
