use Rattle.nf_counts.proofs.PieceLemmas.{boundary}
use Rattle.nf_counts.proofs.scan.Scan.pass_pieces.Goals as goal

pub range_from-requires : goal.range_from-requires
range_from-requires c = λ _. boundary _ _ _ c.loop-self.invariant.reaches.begins
