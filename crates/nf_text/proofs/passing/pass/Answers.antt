use Rattle.std.proofs.Common.{refl, rules}
use Rattle.nf_text.proofs.WholeLemmas.{whole, faults, passes_from}
use Rattle.nf_text.proofs.passing.pass.Goals as goal

pub returns-clause-faults : goal.returns-clause-faults
returns-clause-faults g c =
    faults _ c.run-answer.ensures.unspent (c.no_sound_character_is_refused.ensures.driving _ _ _ _ _ _ _ _ _ _ _ c.every_character_is_sound.ensures.character c.run-answer.ensures.drives)
    (c.unassigned_is_told_where_asked.ensures.driving _ _ _ _ _ _ _ _ _ _ _ refl c.run-answer.ensures.drives)

pub returns-clause-whole : goal.returns-clause-whole
returns-clause-whole g c =
    let got = whole _ _ _ _ _ _ _ _ c.longest_text.ensures.reads c.run-answer.ensures.end c.run-answer.ensures.drives in
    let read = rw c.new-source.ensures.reader at got in
    let written = rw c.new-sink.ensures.writer at read in
    search rules

pub returns-clause-again : goal.returns-clause-again
returns-clause-again g c =
    let got = c.run-answer.ensures.again (c.each_form_changes_a_text_once.ensures c.args.form) in
    let written = rw c.new-sink.ensures.writer at got in
    search rules

pub returns-clause-passes : goal.returns-clause-passes
returns-clause-passes g c =
    passes_from _ _ _ _ _ _ _ _ _ _ _ c.run-answer.ensures.drives c.run-answer.ensures.end (search rules) (search rules) (search rules) (search rules) (search rules) (search rules)
