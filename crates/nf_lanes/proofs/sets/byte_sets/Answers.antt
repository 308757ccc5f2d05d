use Rattle.std.proofs.Common.{◌∙◌}
use Rattle.nf_lanes.specs.Sets.{byte_sets}
use Rattle.nf_lanes.proofs.PlacesLemmas.{loaded}
use Rattle.nf_lanes.proofs.sets.byte_sets.Goals as goal

pub returns : goal.returns
returns c = c.look_up.ensures ∙ loaded (byte_sets c.args.high.now c.args.low.now) c.args.bytes.now c.args.at c.requires.room
