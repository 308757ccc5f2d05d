use Rattle.nf_filter.proofs.Common.{refl, arith, rules}
use Rattle.nf_filter.proofs.ReadingLemmas.{holds_nothing, holds_none}
use Rattle.nf_filter.proofs.FedLemmas.{StandsAfter-none}
use Rattle.nf_filter.proofs.filter.State.new.Goals as goal

pub invariant_of-result-clause-ready : goal.invariant_of-result-clause-ready
invariant_of-result-clause-ready c = λ _. search (arith, rules, holds_nothing)

pub returns-clause-stands : goal.returns-clause-stands
returns-clause-stands c = λ f p taken.
    StandsAfter-none _ refl refl c.new.ensures.offset (holds_none _ c.new.ensures.decoder) (record { machine = taken; chars = refl; put = refl })
