use Rattle.nf_normalizer.specs.Laws.Settled.{settled-extends}
use Rattle.nf_filter.proofs.laws.settled_only_grows.Goals as goal

pub returns : goal.returns
returns c = λ f p x y. let grown = settled-extends p f x y in (grown.more, grown.text)
