use Rattle.nf_normalized.proofs.Common.{arith, length-append, length-le-encodes, encodes-append, encodes-chars}
use Rattle.nf_normalized.proofs.counting.counted.Goals as goal

pub overflow_add-result : goal.overflow_add-result
overflow_add-result c = grind (arith, length-le-encodes, encodes-chars)

pub returns-clause-bytes : goal.returns-clause-bytes
returns-clause-bytes c = grind (arith, encodes-append, encodes-chars, length-append)
