use Rattle.nf_forms.specs.Laws.Span.{stream_safe-span, safe_form-span, front-span, counted-span}
use Rattle.nf_forms.proofs.laws.a_span_is_its_own_form.Goals as goal

pub returns-clause-safe : goal.returns-clause-safe
returns-clause-safe c = stream_safe-span

pub returns-clause-form : goal.returns-clause-form
returns-clause-form c = safe_form-span

pub returns-clause-settled : goal.returns-clause-settled
returns-clause-settled c = front-span

pub returns-clause-bound : goal.returns-clause-bound
returns-clause-bound c = counted-span
