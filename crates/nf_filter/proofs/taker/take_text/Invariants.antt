use Rattle.nf_filter.proofs.Common.{◌≡◌, ℕ, ◌+◌, ◌-◌, ◌≤◌, List, length, IsUtf8, encode_utf8_all, HasTakenFront}
use Rattle.nf_filter.proofs.taker.take_text.Given as goal

abbrev pub invariant-loop-rest : goal.invariant-loop-rest
invariant-loop-rest g l = record {
  utf8 : IsUtf8 l.rest;
  left : length l.rest ≤ length l.text;
  ready : g.T.Taker.ends_at l.taker (l.at + (length l.text - length l.rest));
  taken : (base : ℕ) (x : List ℕ) → g.T.Taker.has_taken (g.R.Rows.properties l.rows) l.fn.taker base x → l.at ≡ base + length (encode_utf8_all x)
      → HasTakenFront (g.T.Taker.has_taken (g.R.Rows.properties l.rows) l.taker base) x l.text l.rest;
}

abbrev pub decreases-loop-rest : goal.decreases-loop-rest
decreases-loop-rest g l = length l.rest
