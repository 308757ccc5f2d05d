use Rattle.std.proofs.Common.{◌∙◌, sym, ap, length}
use Rattle.nf_filter.proofs.FedLemmas.{taken-text}
use Rattle.nf_filter.proofs.filter.Filter.chars.Goals as goal

pub returns : goal.returns
returns g c = λ policy f bytes stands. stands.reading.taken.chars ∙ ap length (sym (taken-text stands))
