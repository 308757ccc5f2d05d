-- It stands so that a wrong body is refused at once: without it the prover would run once more, to offer an answer.
use Rattle.std.proofs.Common.{rules}
use Rattle.nf_row.proofs.plain.Plain.of.Goals as goal

pub returns-then-reads_plain-clause-plain : goal.returns-then-reads_plain-clause-plain
returns-then-reads_plain-clause-plain g c = search rules
