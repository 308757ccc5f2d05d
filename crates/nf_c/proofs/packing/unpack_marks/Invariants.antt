use Rattle.std.proofs.Common.{◌≡◌, map, take, All}
use Rattle.nf_c.specs.State.{IsMark, mark_at}
use Rattle.nf_c.proofs.packing.unpack_marks.Given as goal

abbrev pub invariant-loop-number : goal.invariant-loop-number
invariant-loop-number l = record {
  marks : l.marks.items ≡ map mark_at (take l.number-index l.numbers);
  all : All IsMark (take l.number-index l.numbers);
}
