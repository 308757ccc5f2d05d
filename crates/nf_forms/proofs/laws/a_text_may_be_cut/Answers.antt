use Rattle.nf_forms.specs.Laws.Boundary.{finished-boundary, safe_form-boundary, safe_form-alone, front-push}
use Rattle.nf_forms.proofs.laws.a_text_may_be_cut.Goals as goal

pub returns-clause-row : goal.returns-clause-row
returns-clause-row c = finished-boundary

pub returns-clause-cut : goal.returns-clause-cut
returns-clause-cut c = safe_form-boundary

pub returns-clause-alone : goal.returns-clause-alone
returns-clause-alone c = safe_form-alone

pub returns-clause-settles : goal.returns-clause-settles
returns-clause-settles c = front-push
