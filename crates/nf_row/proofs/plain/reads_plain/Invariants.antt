use Rattle.std.proofs.Common.{ℕ, ◌<◌}
use Rattle.nf_row.specs.Ascii.{IsUnchanged, IsFirstInNone}
use Rattle.nf_row.proofs.plain.reads_plain.Given as goal

abbrev pub invariant-loop-code : goal.invariant-loop-code
invariant-loop-code g l = let p = g.R.Rows.properties l.rows in (a : ℕ) → a < l.code → IsUnchanged p a × IsFirstInNone p a
