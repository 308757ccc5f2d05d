use Rattle.std.proofs.Common.{⊎_elim, arith}
use Rattle.std.proofs.str.Laws.{order}
use Rattle.nf_counts.proofs.scan.Scan.pass_windows.Goals as goal

pub pass_plain-requires-clause-told : goal.pass_plain-requires-clause-told
pass_plain-requires-clause-told c =
    let asked = c.loop-self.invariant.asked in
    λ k from to high.
    ⊎_elim
    (λ before. rw c.loop-self.invariant.text (asked.told k from before (rw c.loop-self.invariant.text at high)))
    (λ after. absurd (grind (arith, asked.inner k, c.ceil_char_boundary.ensures.nearest k)))
    (order k c.loop-self.base)
