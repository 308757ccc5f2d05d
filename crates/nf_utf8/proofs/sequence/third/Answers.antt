use Rattle.std.proofs.Common.{refl, rules}
use Rattle.nf_utf8.proofs.Sequences.{no_third}
use Rattle.nf_utf8.proofs.sequence.third.Goals as goal

pub returns-then-not-is_continuation : goal.returns-then-not-is_continuation
returns-then-not-is_continuation c = (refl, no_third c.args.a c.args.b c.args.byte c.requires.0.0 (search rules))
