use Rattle.std.proofs.Common.{◌≡◌, take, flat_map}
use Rattle.nf_row.proofs.auditing.joined.Given as goal

abbrev pub invariant-loop-c : goal.invariant-loop-c
invariant-loop-c g l = l.joined.items ≡ flat_map (g.R.Rows.properties l.rows).compat (take l.c-index l.c-items)
