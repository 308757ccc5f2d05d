use Rattle.std.proofs.Common.{arith}
use Rattle.nf_utf8.proofs.AsciiLemmas.{all_below}
use Rattle.nf_utf8.proofs.ascii.after_blocks.Goals as goal

pub loop-at-preserved : goal.loop-at-preserved
loop-at-preserved c = grind (arith, all_below c.args.bytes.now c.loop-at.at 64 (omega arith) c.loop-at.invariant.ascii (c.is_ascii.ensures c.if-is_ascii.true))
