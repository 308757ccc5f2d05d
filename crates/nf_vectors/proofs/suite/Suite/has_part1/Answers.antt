use Rattle.nf_vectors.proofs.Common.{refl}
use Rattle.nf_vectors.proofs.suite.Suite.has_part1.Goals as goal

-- It would be found without a word here: it stands so that a wrong body is refused at once.
pub returns : goal.returns
returns c = refl
