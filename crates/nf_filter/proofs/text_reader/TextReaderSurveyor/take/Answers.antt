use Rattle.nf_filter.proofs.ReadingLemmas.{read-more, surveyed-on}
use Rattle.nf_filter.proofs.text_reader.TextReaderSurveyor.take.Goals as goal

pub returns-clause-decides : goal.returns-clause-decides
returns-clause-decides g c = λ survey bytes before short.
    let p = g.R.Rows.properties c.args.self.now.rows.now in
    surveyed-on before c.args.piece.now c.read_piece.result (c.read_piece.ensures.reads survey.base _ (record { before = before.reads.before; read = read-more before.reads.read c.args.piece.now; taken = before.reads.taken })) (λ x taken. g.met.T.Taker.undecided p _ survey.base x taken)
