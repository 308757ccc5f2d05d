use Rattle.nf_facts.proofs.FormsAfter.{normal_form-after, safe_form-after}
use Rattle.nf_facts.proofs.laws.two_forms_are_one.Goals as goal

pub returns : goal.returns
returns c = record { form = normal_form-after; safe = safe_form-after }
