use Rattle.nf_facts.proofs.Starters.{has_boundary_before, alone}
use Rattle.nf_facts.proofs.laws.what_passes_has_a_boundary_before.Goals as goal

pub returns : goal.returns
returns c = record { boundary_before = has_boundary_before; alone = alone }
