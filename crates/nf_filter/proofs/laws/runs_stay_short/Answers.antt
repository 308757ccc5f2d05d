use Rattle.nf_filter.proofs.Common.{Nfkd, stream_safe, trail-decomposed-le, trail-stream_safe-le, is_usable}
use Rattle.nf_filter.proofs.laws.runs_stay_short.Goals as goal

pub returns : goal.returns
unfolding is_usable
returns c = λ f p x usable. (trail-decomposed-le p f (stream_safe p x) usable, trail-stream_safe-le p Nfkd x usable)
