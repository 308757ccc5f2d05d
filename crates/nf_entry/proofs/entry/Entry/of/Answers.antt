use Rattle.std.proofs.Common.{◌/◌, arith}
use Rattle.nf_entry.proofs.Bits.{block_of, bits_of, bits_after}
use Rattle.nf_entry.proofs.entry.Entry.of.Goals as goal

pub returns-then-code-ge3049 : goal.returns-then-code-ge3049
returns-then-code-ge3049 c = bits_after c.args.c (search arith) c.if-code-ge3049.true

pub bounds-code-else-code-ge3049 : goal.bounds-code-else-code-ge3049
bounds-code-else-code-ge3049 c = block_of (c.args.c / 64) c.if-code-ge3049.false

pub returns : goal.returns
returns c = bits_of c.args.c (search arith) c.if-code-ge3049.false
