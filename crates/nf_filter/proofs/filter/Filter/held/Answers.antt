use Rattle.nf_filter.proofs.Common.{arith}
use Rattle.nf_filter.proofs.FilterLemmas.{StandsAfter-offset}
use Rattle.nf_filter.proofs.FedLemmas.{taken-text, taken-len}
use Rattle.nf_filter.proofs.filter.Filter.held.Goals as goal

pub returns-clause-bytes : goal.returns-clause-bytes
returns-clause-bytes g c = λ policy f bytes stands.
    omega (arith, taken-len stands, stands.reading.read.offset, StandsAfter-offset stands)

pub returns-clause-pending : goal.returns-clause-pending
returns-clause-pending g c = λ policy f bytes stands.
    rw (taken-text stands) (c.pending.ensures.value f _ stands.reading.before stands.reading.taken.machine)
