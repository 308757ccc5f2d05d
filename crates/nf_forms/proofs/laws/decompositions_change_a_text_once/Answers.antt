use Rattle.nf_forms.specs.Laws.Audited.{changes_once}
use Rattle.nf_forms.proofs.laws.decompositions_change_a_text_once.Goals as goal

pub returns : goal.returns
returns c = changes_once
