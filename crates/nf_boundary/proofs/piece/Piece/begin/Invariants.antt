use Rattle.nf_boundary.proofs.Common.{◌+◌, take, row_of, ucd, Becomes}
use Rattle.nf_boundary.proofs.piece.Piece.begin.Given as goal

abbrev pub invariant-loop-member : goal.invariant-loop-member
invariant-loop-member l = Becomes l.form (take (l.member-index + 1) (row_of l.form ucd l.fn.first.seen.character)) l.self.starter l.self.run.items l.fn.formed.items l.formed.items
