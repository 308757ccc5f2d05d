use Rattle.nf_filter.proofs.Common.{length, IsAfterAssigned}
use denote.Shadow.{shadow}
use denote.Text.{Utf8}
use Rattle.nf_filter.proofs.taking.past_assigned.Given as goal

abbrev pub invariant-loop-c : goal.invariant-loop-c
invariant-loop-c g l = record {
  utf8 : shadow (Utf8 l.rest);
  after : IsAfterAssigned (g.R.Rows.properties l.rows) l.text l.rest;
}

abbrev pub decreases-loop-c : goal.decreases-loop-c
decreases-loop-c g l = length l.rest
