use Rattle.nf_forms.specs.Ucd.{ucd}
use Rattle.nf_normalized.proofs.KeptLemmas.{length-decomposed, length-form_of}
use Rattle.nf_normalized.proofs.ChangeLemmas.{place_stays}
use Rattle.nf_normalized.proofs.laws.a_settled_place_stays.Goals as goal

pub returns : goal.returns
returns c = λ base f x y place.
    let sound = c.every_character_is_sound.ensures.character in
    place_stays c.every_character_is_sound.ensures.text c.a_second_filter_changes_nothing.ensures.safe
    (c.place_is_longest_front.ensures.fronts ucd) (c.the_process_joins_the_longest_pieces.ensures.unchanged ucd)
    f (length-form_of sound f c.two_forms_are_one.ensures.form) (length-decomposed sound f) c.settled_only_grows.ensures base x y place
