use Rattle.nf_facts.proofs.FormsAfter.{stream_safe-safe_form, safe_form-twice}
use Rattle.nf_facts.proofs.laws.a_second_filter_changes_nothing.Goals as goal

pub returns : goal.returns
returns c = record { safe = stream_safe-safe_form; form = safe_form-twice }
