use Rattle.std.proofs.Common.{◌≡◌, length, map, take, All}
use Rattle.nf_c.specs.State.{IsMark, mark_at}
use Rattle.nf_c.proofs.packing.pack_marks.Given as goal

abbrev pub invariant-loop-at : goal.invariant-loop-at
invariant-loop-at l = record {
  room : length l.numbers ≡ 30;
  marks : map mark_at (take l.at l.numbers) ≡ take l.at l.marks;
  all : All IsMark (take l.at l.numbers);
}
