use Rattle.std.proofs.Common.{◌∙◌}
use Rattle.nfstream_c.proofs.nf_start.Goals as goal

pub returns-clause-stands : goal.returns-clause-stands
returns-clause-stands c = λ done. c.start.ensures.stands (c.start.ensures.status ∙ done)
