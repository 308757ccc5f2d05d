use Rattle.std.proofs.Common.{bit_and, bit_or, ◌∙◌}
use Rattle.std.proofs.lemmas.Simd.{zip2_splat, zip2_of_maps, map-map}
use Rattle.nf_lanes.specs.Lanes.{places}
use Rattle.nf_lanes.proofs.lanes.bits_of_either.Goals as goal

pub returns : goal.returns
returns c h g at is others =
    c.bits.ensures.each (λ k. bit_or (h k) (bit_and (g k) c.args.mask)) at (zip2_of_maps bit_or h _ (places at) is (zip2_splat bit_and c.args.others 16 c.args.mask c.fits-others.0 ∙ rw (others, map-map)))
