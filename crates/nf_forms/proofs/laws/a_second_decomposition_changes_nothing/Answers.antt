use Rattle.nf_forms.specs.Laws.Audited.{nfkd-nfd, stream_safe-again, safe_form-again}
use Rattle.nf_forms.proofs.laws.a_second_decomposition_changes_nothing.Goals as goal

pub returns-clause-nfkd : goal.returns-clause-nfkd
returns-clause-nfkd c = nfkd-nfd

pub returns-clause-safe : goal.returns-clause-safe
returns-clause-safe c = stream_safe-again

pub returns-clause-form : goal.returns-clause-form
returns-clause-form c = safe_form-again
