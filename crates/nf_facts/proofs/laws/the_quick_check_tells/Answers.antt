use Rattle.nf_facts.specs.Refused.{no_mapped_mark}
use Rattle.nf_facts.proofs.Starters.{own_boundary-ucd, never_second-yes}
use Rattle.nf_facts.proofs.Rows.{mark-ucd}
use Rattle.nf_facts.proofs.laws.the_quick_check_tells.Goals as goal

pub returns : goal.returns
returns c = record { own_boundary = own_boundary-ucd; mark = λ f x above may. mark-ucd x above (no_mapped_mark f x may); never_second = never_second-yes }
