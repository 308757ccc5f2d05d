use Rattle.nf_boundary.proofs.Common.{◌≡◌, ◌+◌, ◌++◌, ℕ, List, false, take, has_starter, ucd, Becomes}
use Rattle.nf_boundary.proofs.piece.hold_row.Given as goal

abbrev pub invariant-loop-member : goal.invariant-loop-member
invariant-loop-member l = record {
  becomes : (w : List ℕ) (starter : ℕ) (before now : List ℕ) → Becomes l.fn.form w starter l.fn.run.items before now → Becomes l.fn.form (w ++ take l.member-index l.members) starter l.run.items before now;
  marks : has_starter ucd (take l.member-index l.members) ≡ false;
  room : l.left + l.member-index ≡ l.fn.room;
}
