use Rattle.nf_vectors.proofs.Common.{◌≡◌, ◌<◌, ℕ, false, length, take, get_or, list_any, rows_in, lists}
use Rattle.nf_vectors.proofs.suite.Suite.listed.Given as goal

abbrev pub invariant-loop-entry : goal.invariant-loop-entry
invariant-loop-entry l = record {
  size : length l.listed.items ≡ 1114112;
  listed : (c : ℕ) → c < 1114112 → get_or l.listed.items c false ≡ list_any (lists c) (rows_in l.self.text.items (take l.entry-index l.self.entries.items));
}
