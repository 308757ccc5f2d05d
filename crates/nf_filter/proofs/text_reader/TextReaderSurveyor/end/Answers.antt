use Rattle.nf_filter.proofs.Common.{◌+◌, refl, sym, ap, ◌∙◌, Ok, Err, ending_of}
use Rattle.nf_utf8.proofs.StandingLemmas.{stands_alone}
use Rattle.nf_filter.proofs.ReadingLemmas.{end_is, read-text, read-end}
use Rattle.nf_filter.proofs.text_reader.TextReaderSurveyor.end.Goals as goal

pub returns-in-Ok-clause-ends : goal.returns-in-Ok-clause-ends
returns-in-Ok-clause-ends g c = λ survey bytes taken.
    let p = g.R.Rows.properties c.args.self.rows.now in
    ap Ok (rw (read-text taken.reads.read) (c.end-in-Ok.ensures p survey.base taken.reads.before taken.reads.taken) ∙ sym (taken.worth bytes))
    ∙ end_is survey.base (survey.value bytes) (ending_of bytes) (Ok tt) (c.in-Ok.ensures.end (survey.base + taken.reads.read.n) _ (stands_alone _ taken.reads.read.begun) taken.reads.read.offset ∙ sym (read-end taken.reads.read refl))

pub returns-clause-ends : goal.returns-clause-ends
returns-clause-ends g c = λ survey bytes taken.
    end_is survey.base (survey.value bytes) (ending_of bytes) (Err c.in-Err.fault) (c.in-Err.ensures.end (survey.base + taken.reads.read.n) _ (stands_alone _ taken.reads.read.begun) taken.reads.read.offset ∙ sym (read-end taken.reads.read refl))
