use Rattle.nf_vectors.proofs.Common.{rules}
use Rattle.nf_vectors.proofs.check.and.Goals as goal

-- These two would be found without a word here: they stand so that a wrong body is refused at once.
pub returns-in-Skipped : goal.returns-in-Skipped
returns-in-Skipped = search rules

pub returns-in-Failed : goal.returns-in-Failed
returns-in-Failed = search rules
