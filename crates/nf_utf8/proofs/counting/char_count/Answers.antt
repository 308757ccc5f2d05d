use Rattle.std.proofs.Common.{◌+◌, arith}
use Rattle.nf_utf8.proofs.CountingLemmas.{starts-front, count-more, count-rest, count-le, count-chars}
use Rattle.nf_utf8.proofs.counting.char_count.Goals as goal

pub loop-at-init : goal.loop-at-init
loop-at-init c = grind (arith, starts-front c.as_bytes-bytes.result.now c.ascii_prefix-at.result)

pub overflow_add-count : goal.overflow_add-count
overflow_add-count c =
    let bytes = c.as_bytes-bytes.result.now in
    grind (arith, count-more bytes c.loop-at.at 32, count-le bytes (c.loop-at.at + 32))

pub loop-at-preserved : goal.loop-at-preserved
loop-at-preserved c = grind (arith, count-more c.as_bytes-bytes.result.now c.loop-at.at 32)

pub returns : goal.returns
returns c = rw (← (count-chars c.args.text.now c.utf8.text), ← c.as_bytes-bytes.ensures.value) (omega (arith, count-rest c.as_bytes-bytes.result.now c.loop-at.at))
