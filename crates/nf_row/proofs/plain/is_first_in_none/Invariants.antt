use Rattle.std.proofs.Common.{◌≡◌, ℕ, ◌<◌, None}
use Rattle.nf_row.proofs.plain.is_first_in_none.Given as goal

abbrev pub invariant-loop-second : goal.invariant-loop-second
invariant-loop-second g l = (b : ℕ) → b < l.second → (g.R.Rows.properties l.rows).pair l.a b ≡ None
