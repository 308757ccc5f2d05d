use Rattle.nf_vectors.proofs.Common.{arith, append-nil, encodes-append}
use Rattle.std.proofs.lemmas.Grind.{common_steps}
use Rattle.nf_vectors.proofs.encoded.encode.Goals as goal

pub loop-c-preserved : goal.loop-c-preserved
loop-c-preserved c = grind (arith, common_steps, encodes-append, append-nil)
