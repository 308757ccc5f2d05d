use Rattle.nf_safe.specs.Laws.Pieces.{cut-some, cut-only, stream_safe-cut, stream_safe-in_format, in_format-unchanged}
use Rattle.nf_safe.proofs.Common.{sound-stream_safe}
use Rattle.nf_safe.proofs.laws.the_process_joins_the_longest_pieces.Goals as goal

pub returns-clause-cut : goal.returns-clause-cut
returns-clause-cut c = cut-some

pub returns-clause-only : goal.returns-clause-only
returns-clause-only c = cut-only

pub returns-clause-joined : goal.returns-clause-joined
returns-clause-joined c = λ p joins x sound. stream_safe-cut p x (sound-stream_safe p joins x sound)

pub returns-clause-unchanged : goal.returns-clause-unchanged
returns-clause-unchanged c = λ p x sound. (in_format-unchanged p x sound, stream_safe-in_format p x)
