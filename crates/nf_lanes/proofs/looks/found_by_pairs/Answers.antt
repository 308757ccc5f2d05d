use Rattle.nf_lanes.specs.Looks.{is_in}
use Rattle.nf_lanes.proofs.BitsLemmas.{narrower, none_found}
use Rattle.nf_lanes.proofs.looks.found_by_pairs.Goals as goal

pub returns-clause-fewer : goal.returns-clause-fewer
returns-clause-fewer c k one = narrower _ _ k one

pub returns-clause-told : goal.returns-clause-told
returns-clause-told c k few one none = none_found c.args.bytes.now c.args.at k few (is_in c.args.family.now) _ _ c.family_bits-pairs.ensures one none
