use Rattle.std.proofs.Common.{◌≤◌, take}
use Rattle.nf_row.specs.NonStarters.{HasNonStarters}
use Rattle.nf_row.proofs.non_starters.NonStarters.of_members.Given as goal

abbrev pub invariant-loop-c : goal.invariant-loop-c
invariant-loop-c g l = record {
  few : (l.so_far.lead ≤ l.c-index) × (l.so_far.trail ≤ l.c-index);
  ends : HasNonStarters (g.R.Rows.properties l.rows) (take l.c-index l.row) l.so_far;
}
