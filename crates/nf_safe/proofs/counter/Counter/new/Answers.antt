-- They stand so that a wrong body is refused at once: without them the prover would run once more, to offer answers.
use Rattle.std.proofs.Common.{rules}
use Rattle.nf_safe.proofs.counter.Counter.new.Goals as goal

pub returns-clause-count : goal.returns-clause-count
returns-clause-count c = search rules

pub returns-clause-stands : goal.returns-clause-stands
returns-clause-stands c = search rules
