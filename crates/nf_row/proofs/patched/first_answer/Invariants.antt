use Rattle.std.proofs.Common.{◌≡◌, Option, drop}
use Rattle.nf_row.specs.declared.patched.Change.{Change}
use Rattle.nf_row.specs.Changes.{first_change}
use Rattle.nf_row.proofs.patched.first_answer.Given as goal

-- what is left has the answer
abbrev pub invariant-loop-change : goal.invariant-loop-change
invariant-loop-change g l = (answer : Change → Option g.row.A.Denot) → ((change : Change) (r : Option g.row.A.Denot) → g.F.Fn.post l.asked (change, tt) r → r ≡ answer change)
    → first_change answer (drop l.change-index l.changes) ≡ first_change answer l.changes
