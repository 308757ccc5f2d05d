use Rattle.std.proofs.Common.{leb, replicate, arith, w8}
use Rattle.std.proofs.lemmas.List.{length-map}
use Rattle.std.proofs.lemmas.Simd.{tops_compared, zip2_splat_left, mask_l-mod, length-chunk}
use lib.Lanes.{chunk}
use Rattle.nf_lanes.proofs.PlacesLemmas.{length-places, loaded}
use Rattle.nf_lanes.proofs.lanes.at_least.Goals as goal

pub returns : goal.returns
returns c =
    let bytes = c.args.bytes.now in
    let at = c.args.at in
    let least = c.args.least in
    let lanes = chunk at 16 bytes in
    rw (
      tops_compared w8 leb (replicate 16 least) lanes,
      zip2_splat_left leb least 16 lanes (length-chunk at 16 bytes c.requires.room),
      loaded (leb least) bytes at c.requires.room,
    ) (mask_l-mod _ 64 (rw (length-map, length-places at) (omega arith)))
