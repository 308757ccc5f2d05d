use Rattle.nf_filter.proofs.Common.{ℕ, length, ap, arith, length-append, composes, decomposed, finished, stream_safe, front-append-back, length-back, trail-stream_safe-le, safe_form, settled, is_usable}
use Rattle.nf_filter.proofs.laws.little_is_held_back.Goals as goal

pub returns : goal.returns
unfolding safe_form settled is_usable
returns c = λ f p x usable.
    let w = decomposed f p (stream_safe p x) in
    omega (arith, ap length (front-append-back p (finished f p w)), length-append {A = ℕ}, length-back p (composes f) w, trail-stream_safe-le p f x usable)
