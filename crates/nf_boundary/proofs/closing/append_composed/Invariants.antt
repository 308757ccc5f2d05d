use Rattle.nf_boundary.proofs.Common.{◌+◌, ◌≤◌, length}
use Rattle.nf_boundary.proofs.WalkLemmas.{Walks}
use Rattle.nf_boundary.proofs.closing.append_composed.Given as goal

abbrev pub invariant-loop-mark : goal.invariant-loop-mark
invariant-loop-mark g l = record {
  walks : Walks (g.R.Rows.properties l.rows) l.fn.first l.marks l.mark-index l.highest l.starter l.text.items;
  few : length l.text.items ≤ l.mark-index + 1;
}
