use Rattle.nf_normalized.proofs.KeptLemmas.{kept_short}
use Rattle.nf_normalized.proofs.laws.little_is_kept.Goals as goal

pub returns : goal.returns
returns c = λ f x u split. kept_short c.every_character_is_sound.ensures.character f c.two_forms_are_one.ensures.form c.exceptions_are_few.ensures.mark c.every_character_is_sound.ensures.text c.little_is_held_back.ensures x u split
