use Rattle.nf_boundary.proofs.Common.{rules}
use Rattle.nf_boundary.proofs.PieceLemmas.{stands_end}
use Rattle.nf_boundary.proofs.after_span.changed_after.Goals as goal

pub returns-clause-stands : goal.returns-clause-stands
returns-clause-stands c = search (rules, stands_end, c.requires.span.text, c.requires.span.is_span)
