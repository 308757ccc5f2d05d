use Rattle.std.proofs.Common.{[]}
use Rattle.nf_filter.specs.Policy.{as_is}
use Rattle.nf_c.proofs.FeedsLemmas.{StandsAfter-of}
use Rattle.nf_c.proofs.starting.start.Goals as goal

pub returns-clause-stands : goal.returns-clause-stands
returns-clause-stands c = λ _.
    let stood = c.policy-filter.ensures.stands as_is c.in-Some.form [] c.quickest.ensures.stands in
    rw (← c.in-Some.ensures.form) (rw (← c.in-Some-policy_of.ensures.policy) (StandsAfter-of (c.kept.ensures.stands c.in-Some-policy_of.policy c.in-Some.form [] stood)))
