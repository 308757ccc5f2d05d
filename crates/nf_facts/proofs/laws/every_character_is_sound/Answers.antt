use Rattle.std.proofs.lemmas.List.Sums.{list_all-from_AllPass}
use Rattle.nf_facts.proofs.Rows.{is_sound-ucd}
use Rattle.nf_facts.proofs.laws.every_character_is_sound.Goals as goal

pub returns : goal.returns
returns c = record { character = is_sound-ucd; text = λ x. list_all-from_AllPass _ x (λ k d within. is_sound-ucd _) }
