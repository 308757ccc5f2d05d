use Rattle.nf_vectors.proofs.Common.{rules, ◌≡◌, ◌∙◌, refl, sym, ap, judgement, judged}
use Rattle.nf_vectors.proofs.TextLemmas.{AreWithin-append, rows_in-append}
use Rattle.nf_vectors.proofs.reading.Reading.end_line.Goals as goal

pub returns-clause-columns : goal.returns-clause-columns
returns-clause-columns c = search (rules, AreWithin-append)

pub returns-clause-ends : goal.returns-clause-ends
returns-clause-ends c =
    let grows = c.in_ok-held.ensures.grows in
    let old = c.args.self.now in
    let ends = c.in_ok-hold.ensures.holds (judgement c.unmarked.result.now) c.in_ok-held.ensures.judged in
    let is : judgement c.unmarked.result.now ≡ judged old.line old.bytes.items = sym c.unmarked.ensures.text ∙ ap (judged old.line) c.as_slice.ensures.value in
    record {
      rows = rw (← is, ends.rows, grows.1, rows_in-append old.text.items grows.0 old.entries.items c.requires.columns) refl;
      in_part1 = rw (← is) ends.in_part1;
      has_part1 = rw (← is) ends.has_part1;
    }
