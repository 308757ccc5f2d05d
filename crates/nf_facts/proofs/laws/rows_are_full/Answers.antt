use Rattle.nf_facts.proofs.Common.{KitNfd, KitNfkd, ucd}
use Rattle.nf_facts.proofs.Rows.{full, compat-joined, canonical-marks}
use Rattle.nf_facts.proofs.laws.rows_are_full.Goals as goal

pub returns : goal.returns
unfolding ucd
returns c = record { canonical = full KitNfd; compat = full KitNfkd; joined = compat-joined; marks = canonical-marks }
