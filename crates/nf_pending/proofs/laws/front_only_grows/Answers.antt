use Rattle.nf_pending.proofs.Common.{composes, front-append}
use Rattle.nf_pending.proofs.laws.front_only_grows.Goals as goal

pub returns : goal.returns
returns c = λ f p w v. front-append p (composes f) w v
