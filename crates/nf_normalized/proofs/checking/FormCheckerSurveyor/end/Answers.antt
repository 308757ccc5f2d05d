use Rattle.std.proofs.Common.{rules}
use Rattle.nf_normalized.proofs.checking.FormCheckerSurveyor.end.Goals as goal

-- Without an answer the check would try this goal a second time, at a wrong body, to offer one.
pub returns-clause-ends : goal.returns-clause-ends
returns-clause-ends c = search rules
