use Rattle.std.proofs.Common.{refl, rules}
use Rattle.nf_utf8.proofs.Sequences.{no_second}
use Rattle.nf_utf8.proofs.sequence.second.Goals as goal

pub returns-then-not-is_second : goal.returns-then-not-is_second
returns-then-not-is_second c = (refl, no_second c.args.a c.args.byte c.requires (search rules))
