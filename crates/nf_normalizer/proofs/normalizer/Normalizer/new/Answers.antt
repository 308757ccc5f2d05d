use Rattle.nf_normalizer.proofs.Common.{refl, is_usable-none}
use Rattle.nf_normalizer.proofs.normalizer.Normalizer.new.Goals as goal

pub returns-clause-taken : goal.returns-clause-taken
returns-clause-taken c = λ p. record { usable = is_usable-none p; form = refl; plain = λ e. cc; count = c.new.ensures.count; pending = c.new-2.ensures.stands p }
