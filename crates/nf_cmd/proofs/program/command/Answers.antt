use Rattle.nf_cmd.proofs.Common.{inr, Keeps-refl}
use Rattle.nf_cmd.proofs.RunsLemmas.{converts_once, never_row, refused_answers, refused_by}
use Rattle.nf_cmd.proofs.program.command.Goals as goal

pub returns-in-Err-clause-answer : goal.returns-in-Err-clause-answer
returns-in-Err-clause-answer g c = refused_answers c.in-Err.ensures.refused (Keeps-refl _) (c.refuse.ensures _ _)

pub returns-in-Err-clause-refused : goal.returns-in-Err-clause-refused
returns-in-Err-clause-refused g c = refused_by _ _ c.in-Err.ensures.refused (c.refuse.ensures (g.I.Read.remaining c.args.input.now) (g.I.Read.remaining c.args.input.now))

pub returns-in-Ok-clause-answer : goal.returns-in-Ok-clause-answer
returns-in-Ok-clause-answer g c =
    let none = c.no_sound_character_is_refused.ensures in
    let does = c.perform.ensures.does _ _ in
    inr (inr (record {
      request = _;
      asks = c.in-Ok.ensures.asked;
      found = _;
      does = does;
      sound = never_row none.driving none.checking none.measuring c.every_character_is_sound.ensures.character _ _ _ _ does;
      ends = record { status_is = c.report.ensures.status; line = c.report.ensures.line };
    }))

pub returns-in-Err-clause-again : goal.returns-in-Err-clause-again
returns-in-Err-clause-again g c = converts_once c.what_was_finished_stays.ensures c.each_form_changes_a_text_once.ensures _ _ _ _

pub returns-in-Ok-clause-again : goal.returns-in-Ok-clause-again
returns-in-Ok-clause-again g c = converts_once c.what_was_finished_stays.ensures c.each_form_changes_a_text_once.ensures _ _ _ _
