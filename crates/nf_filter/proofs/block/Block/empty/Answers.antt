use Rattle.nf_filter.proofs.Common.{◌++◌, sym, append-nil}
use Rattle.nf_filter.proofs.WritesLemmas.{Puts-after, BreaksOff-after}
use Rattle.nf_filter.proofs.block.Block.empty.Goals as goal

pub returns-in-Err-clause-writes : goal.returns-in-Err-clause-writes
returns-in-Err-clause-writes g c = λ start w written. BreaksOff-after written.text written.puts (rw c.as_slice.ensures.value at c.in-Err.ensures.puts)

pub returns-clause-writes : goal.returns-clause-writes
returns-clause-writes g c = λ start w written. record {
  given = start.ahead ++ w;
  puts = Puts-after written.text written.puts (rw c.as_slice.ensures.value at c.in_default.ensures.puts);
  text = rw c.clear.ensures (sym (append-nil (start.ahead ++ w)));
}
