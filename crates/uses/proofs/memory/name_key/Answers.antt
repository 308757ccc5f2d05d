use Rattle.nf_forms.specs.declared.form.Form.TheVariants.{Nfkc}
use Rattle.uses.proofs.memory.name_key.Goals as goal

-- a wrong body is refused at this goal
pub returns-clause-key : goal.returns-clause-key
returns-clause-key c = c.converted.ensures.form

pub returns-clause-again : goal.returns-clause-again
returns-clause-again c = c.converted.ensures.again (c.each_form_changes_a_text_once.ensures Nfkc)
