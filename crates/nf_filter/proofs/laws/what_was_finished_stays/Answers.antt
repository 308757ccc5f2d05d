use Rattle.nf_filter.proofs.AgainLemmas.{finished_stays}
use Rattle.nf_filter.proofs.laws.what_was_finished_stays.Goals as goal

pub returns : goal.returns
returns c = finished_stays c.longest_text.ensures c.read_back.ensures c.replacing.ensures
