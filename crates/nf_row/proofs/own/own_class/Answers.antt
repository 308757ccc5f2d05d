use Rattle.std.proofs.Common.{arith}
use Rattle.nf_forms.specs.Ucd.{ucd}
use Rattle.nf_row.proofs.own.own_class.Goals as goal

pub returns : goal.returns
unfolding ucd
returns c = λ p x known.
    let own = c.what_passes_in_nfkd_is_its_own_row.ensures x in
    let sound = c.every_character_is_sound.ensures.character x in
    grind arith
