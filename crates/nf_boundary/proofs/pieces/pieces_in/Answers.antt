use Rattle.nf_boundary.proofs.Common.{arith, rules}
use Rattle.std.proofs.lemmas.Grind.{common_steps}
use Rattle.nf_boundary.proofs.PieceLemmas.{closes_shorter, reaches_more}
use Rattle.nf_boundary.proofs.pieces.pieces_in.Goals as goal

pub loop-after-smaller : goal.loop-after-smaller
loop-after-smaller g c = search (rules, closes_shorter)

pub loop-after-preserved : goal.loop-after-preserved
loop-after-preserved g c = grind (arith, common_steps, reaches_more)
