use Rattle.nf_facts.proofs.Scalars.{changes_once}
use Rattle.nf_facts.proofs.laws.each_form_changes_a_text_once.Goals as goal

pub returns : goal.returns
returns c = changes_once
