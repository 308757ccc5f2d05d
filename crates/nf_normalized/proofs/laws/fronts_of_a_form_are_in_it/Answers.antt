use Rattle.nf_forms.specs.Ucd.{ucd}
use Rattle.nf_normalized.proofs.FrontLemmas.{front_in_form}
use Rattle.nf_normalized.proofs.laws.fronts_of_a_form_are_in_it.Goals as goal

pub returns : goal.returns
returns c =
    front_in_form c.every_character_is_sound.ensures.character c.exceptions_are_few.ensures.starter c.some_starters_count_as_marks.ensures.own
    c.the_quick_check_tells.ensures.mark c.each_pair_has_a_primary_composite.ensures c.forms_are_those_of_the_kit.ensures.form c.two_forms_are_one.ensures.form
    c.every_character_is_sound.ensures.text c.a_second_filter_changes_nothing.ensures.safe
    (c.place_is_longest_front.ensures.fronts ucd) (c.the_process_joins_the_longest_pieces.ensures.unchanged ucd)
