use Rattle.nf_vectors.proofs.Common.{rules, eq-eqb}
use Rattle.std.proofs.lemmas.Result.{IfErr-weaker}
use Rattle.nf_vectors.proofs.StandingLemmas.{StandsAfter-line}
use Rattle.nf_vectors.proofs.EndingLemmas.{bad_line}
use Rattle.nf_vectors.proofs.reading.Reading.take_byte.Goals as goal

pub returns-then-byte-eq10-clause-stands : goal.returns-then-byte-eq10-clause-stands
returns-then-byte-eq10-clause-stands c = λ bytes stands.
    StandsAfter-line _ c.args.byte stands (eq-eqb c.args.byte 10 c.if-byte-eq10.true) c.end_line.result c.end_line.ensures.rest c.end_line.ensures.ends c.end_line.ensures.fine

pub returns-then-byte-eq10-clause-finds : goal.returns-then-byte-eq10-clause-finds
returns-then-byte-eq10-clause-finds c = λ bytes stands.
    IfErr-weaker c.end_line.result _ _ (λ kind bad sound _. bad_line stands c.args.byte kind (eq-eqb c.args.byte 10 c.if-byte-eq10.true) (bad sound)) c.end_line.ensures.bad

-- These two would be found without a word here: they stand so that a wrong body is refused at once.
pub returns-then-self-eq-LIMIT-clause-unread : goal.returns-then-self-eq-LIMIT-clause-unread
returns-then-self-eq-LIMIT-clause-unread = search rules

pub returns-then-self-eq-LIMIT-clause-size : goal.returns-then-self-eq-LIMIT-clause-size
returns-then-self-eq-LIMIT-clause-size = search rules
