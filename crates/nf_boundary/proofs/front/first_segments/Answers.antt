use Rattle.nf_boundary.proofs.Common.{rules}
use Rattle.nf_boundary.proofs.PieceLemmas.{reaches_own, stands-seam, first_segments}
use Rattle.nf_boundary.proofs.front.first_segments.Goals as goal

pub split_at-requires : goal.split_at-requires
split_at-requires c = search (rules, stands-seam)

pub returns : goal.returns
returns c = search (rules, first_segments, c.take_front-last.ensures c.args.text.now c.split_at.result.0.now (search (rules, reaches_own)))
