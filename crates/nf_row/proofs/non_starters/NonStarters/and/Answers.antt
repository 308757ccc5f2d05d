-- It stands so that a wrong body is refused at once: without it the prover would run once more, to offer an answer.
use Rattle.std.proofs.Common.{rules}
use Rattle.nf_row.proofs.non_starters.NonStarters.and.Goals as goal

pub returns-clause-trail : goal.returns-clause-trail
returns-clause-trail c = search rules
