use Rattle.std.proofs.Common.{arith}
use Rattle.std.proofs.lemmas.Slice.Eq.{bytes_eq-Decides}
use Rattle.nf_filter.proofs.CommonLemmas.{common-is}
use Rattle.nf_filter.proofs.comparing.common_len.Goals as goal

pub returns-then-eq : goal.returns-then-eq
returns-then-eq c = grind (arith, bytes_eq-Decides, common-is)

pub returns-else-a-at : goal.returns-else-a-at
returns-else-a-at c = grind (arith, common-is)
