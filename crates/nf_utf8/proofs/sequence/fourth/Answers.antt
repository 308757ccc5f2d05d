use Rattle.std.proofs.Common.{refl, rules}
use Rattle.nf_utf8.proofs.Sequences.{no_fourth}
use Rattle.nf_utf8.proofs.sequence.fourth.Goals as goal

pub returns-else-is_continuation : goal.returns-else-is_continuation
returns-else-is_continuation c = (refl, no_fourth c.args.a c.args.b c.args.c c.args.byte c.requires.0.0 (search rules))
