use Rattle.std.proofs.Common.{◌∙◌}
use Rattle.nf_counts.proofs.Told.{is_trie, told-value, told-small, told-some, told-valued}
use Rattle.nf_counts.proofs.table.value.Goals as goal

pub get_wide-requires : goal.get_wide-requires
get_wide-requires c = is_trie

pub returns-clause-within : goal.returns-clause-within
returns-clause-within c = rw (c.get_wide.ensures, told-value c.args.code c.requires) (told-small _)

pub returns-clause-valued : goal.returns-clause-valued
returns-clause-valued c =
    let code = c.args.code in
    let is = c.get_wide.ensures ∙ told-value code c.requires in
    told-valued code (c.every_character_is_sound.ensures.character code) _ is (rw is (told-some code c.requires))
