use Rattle.std.proofs.Common.{bit_and, ◌∙◌}
use Rattle.std.proofs.lemmas.Simd.{zip2_of_maps}
use Rattle.nf_lanes.specs.Lanes.{places}
use Rattle.nf_lanes.proofs.PlacesLemmas.{places_after}
use Rattle.nf_lanes.proofs.sets.pair_sets.Goals as goal

pub returns : goal.returns
returns c = zip2_of_maps bit_and _ _ (places c.args.at) c.byte_sets-first.ensures (c.byte_sets-next.ensures ∙ places_after _ c.args.at 1)
