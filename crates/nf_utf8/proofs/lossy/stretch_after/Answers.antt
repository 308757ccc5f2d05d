use Rattle.nf_utf8.proofs.Common.{refl, arith, nat_tests}
use Rattle.nf_utf8.proofs.NextLemmas.{part_is}
use Rattle.nf_utf8.proofs.lossy.stretch_after.Goals as goal

pub returns-in-Bad : goal.returns-in-Bad
returns-in-Bad c = (part_is c.args.bytes.now c.args.text _ c.in-Bad.at c.in-Bad.back c.max.result c.requires.utf8 (omega arith) c.in-Bad.ensures (grind (arith, nat_tests, c.in-Bad.ensures, c.max.ensures)), refl)
