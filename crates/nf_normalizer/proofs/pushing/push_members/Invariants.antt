use Rattle.nf_normalizer.proofs.Common.{◌≡◌, ◌≤◌, ◌+◌, ◌*◌, ℕ, List, ◌++◌, take, length, Form, run_len, StandsAfter, Start, Holds, run_after, front_utf8, Pushes}
use Rattle.nf_normalizer.proofs.pushing.push_members.Given as goal

abbrev pub invariant-loop-c : goal.invariant-loop-c
invariant-loop-c g l = record {
  run : run_len l.pending ≡ run_after (g.R.Rows.properties l.rows) (run_len l.fn.pending) (take l.c-index l.row);
  few : length l.room.items + 4 * run_len l.pending ≤ length l.fn.room.items + 4 * run_len l.fn.pending + 4 * l.c-index;
  pushed : (f : Form) (w : List ℕ) (start : Start) → StandsAfter f (g.R.Rows.properties l.rows) l.fn.pending w → Holds start l.fn.room.items (front_utf8 f (g.R.Rows.properties l.rows) w)
      → Pushes f (g.R.Rows.properties l.rows) l.pending start l.room.items (w ++ take l.c-index l.row);
}
