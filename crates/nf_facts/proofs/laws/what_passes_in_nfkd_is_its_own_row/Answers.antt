use Rattle.nf_facts.proofs.Rows.{own_row-passing}
use Rattle.nf_facts.proofs.laws.what_passes_in_nfkd_is_its_own_row.Goals as goal

pub returns : goal.returns
returns c = own_row-passing
