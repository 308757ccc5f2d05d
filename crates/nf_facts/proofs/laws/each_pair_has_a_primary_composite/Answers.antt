use Rattle.nf_forms.specs.Ucd.{ucd}
use Rattle.nf_facts.proofs.SameForms.{composite-ucd}
use Rattle.nf_facts.proofs.laws.each_pair_has_a_primary_composite.Goals as goal

pub returns : goal.returns
unfolding ucd
returns c = composite-ucd
