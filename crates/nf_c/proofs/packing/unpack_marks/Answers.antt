use Rattle.std.proofs.Common.{rules}
use Rattle.std.proofs.lemmas.List.{take_more, map-append}
use Rattle.std.proofs.lemmas.List.Elements.{All-more}
use Rattle.nf_c.specs.State.{IsMark}
use Rattle.nf_c.proofs.packing.unpack_marks.Goals as goal

pub loop-number-preserved : goal.loop-number-preserved
loop-number-preserved c = record {
  marks = simp (c.push.ensures.items, c.loop-number.invariant.marks, c.in_ok-unpack_mark.ensures.mark, take_more c.args.numbers.now c.loop-number.number-index 0 c.loop-number-test.true, map-append);
  all = All-more IsMark c.args.numbers.now c.loop-number.number-index 0 c.loop-number-test.true c.loop-number.invariant.all (search rules);
}
