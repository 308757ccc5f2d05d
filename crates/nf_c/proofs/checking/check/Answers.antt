use Rattle.std.proofs.Common.{◌<◌, ◌^◌, length, false, refl, rules}
use Rattle.nf_forms.specs.Ucd.{ucd}
use Rattle.nf_c.proofs.ChecksLemmas.{of_check, Checks-from}
use Rattle.nf_c.proofs.checking.check.Goals as goal

pub returns : goal.returns
returns c =
    let fits : length c.args.input.now < 2 ^ 64 = search rules in
    let sound = c.no_sound_character_is_refused.ensures.checking 4096 ucd 0 _ _ c.check-answer.result c.every_character_is_sound.ensures.character c.check-answer.ensures.surveys in
    Checks-from _ _ _ _ c.args.input.now (record { rest = c.args.input; ended = false }) c.check-answer.new.source c.check-answer.result refl c.check-answer.ensures.surveys fits
    (λ e. let failed = c.check-answer.ensures.read.0 e in cc) (of_check c.check-answer.result c.check-answer.ensures.faults sound) _ c.told.ensures
