use Rattle.nf_facts.proofs.SameForms.{normal_form-ucd, stream_safe-ucd}
use Rattle.nf_facts.proofs.laws.forms_are_those_of_the_kit.Goals as goal

pub returns : goal.returns
returns c = record { form = normal_form-ucd; safe = stream_safe-ucd }
