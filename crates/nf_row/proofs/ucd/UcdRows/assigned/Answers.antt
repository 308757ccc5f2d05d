-- It stands so that a wrong body is refused at once: without it the prover would run once more, to offer an answer.
use Rattle.std.proofs.Common.{rules}
use Rattle.nf_forms.specs.Ucd.{ucd, is_assigned}
use Rattle.nf_row.proofs.ucd.UcdRows.assigned.Goals as goal

pub returns : goal.returns
unfolding ucd is_assigned
returns c = search rules
