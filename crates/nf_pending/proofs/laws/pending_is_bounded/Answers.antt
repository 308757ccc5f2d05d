use Rattle.nf_pending.proofs.Common.{ap, length, arith, length-append, composes, finished, front-append-back, length-back}
use Rattle.nf_pending.proofs.laws.pending_is_bounded.Goals as goal

pub returns : goal.returns
returns c = λ f p w within.
    omega (arith, simp length-append at (ap length (front-append-back p (finished f p w))), length-back p (composes f) w)
