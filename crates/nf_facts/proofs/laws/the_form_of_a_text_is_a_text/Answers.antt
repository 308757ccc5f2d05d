use Rattle.nf_facts.proofs.Scalars.{scalar-rows, scalar-pair, scalars-normal_form}
use Rattle.nf_facts.proofs.laws.the_form_of_a_text_is_a_text.Goals as goal

pub returns : goal.returns
returns c = record { rows = scalar-rows; pair = scalar-pair; form = scalars-normal_form }
