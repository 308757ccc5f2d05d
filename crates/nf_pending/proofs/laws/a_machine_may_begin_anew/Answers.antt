use Rattle.nf_pending.specs.Laws.After.{stands-after}
use Rattle.nf_pending.proofs.laws.a_machine_may_begin_anew.Goals as goal

pub returns : goal.returns
returns c = stands-after
