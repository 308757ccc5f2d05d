use Rattle.nf_boundary.proofs.Common.{rules, get_or_default}
use Rattle.nf_boundary.proofs.WalkLemmas.{walks_joined, walks_left}
use Rattle.nf_boundary.proofs.closing.append_composed.Goals as goal

pub loop-mark-preserved : goal.loop-mark-preserved
loop-mark-preserved g c = search (rules, get_or_default, walks_joined, walks_left)
