use Rattle.nf_boundary.proofs.Common.{length, Fills}
use Rattle.nf_boundary.proofs.pieces.append_piece.Given as goal

abbrev pub invariant-loop-after : goal.invariant-loop-after
invariant-loop-after l = Fills l.form l.fn.first.seen l.next l.piece l.fn.formed.items l.formed.items

abbrev pub decreases-loop-after : goal.decreases-loop-after
decreases-loop-after l = length l.next.text.now
