use Rattle.nf_forms.specs.Laws.Closing.{stream_safe-segments, safe_form-segments}
use Rattle.nf_forms.proofs.laws.a_text_may_be_cut_after.Goals as goal

pub returns-clause-safe : goal.returns-clause-safe
returns-clause-safe c = stream_safe-segments

pub returns-clause-form : goal.returns-clause-form
returns-clause-form c = safe_form-segments
