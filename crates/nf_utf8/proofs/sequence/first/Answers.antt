use Rattle.std.proofs.Common.{refl, arith}
use Rattle.nf_utf8.proofs.Sequences.{no_first}
use Rattle.nf_utf8.proofs.sequence.first.Goals as goal

pub returns-in_default : goal.returns-in_default
returns-in_default c = (refl, no_first c.args.byte (omega arith) (λ h. omega arith))

pub returns-in_default-2 : goal.returns-in_default-2
returns-in_default-2 c = (refl, no_first c.args.byte (omega arith) (λ h. omega arith))
