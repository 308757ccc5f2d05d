use Rattle.std.proofs.Common.{arith, append-nil}
use Rattle.std.proofs.Math.Seq.{drop-append-add}
use Rattle.std.proofs.lemmas.Grind.{common_steps}
use Rattle.std.proofs.lemmas.List.{drop_all}
use Rattle.nf_filter.proofs.Common.{drop-append-le}
use Rattle.std.proofs.lemmas.List.{take_rest}
use Rattle.nf_filter.proofs.comparing.Comparing.left.Goals as goal

pub returns-clause-left : goal.returns-clause-left
returns-clause-left c = grind (arith, common_steps, take_rest, drop-append-le, drop-append-add, drop_all, append-nil)
