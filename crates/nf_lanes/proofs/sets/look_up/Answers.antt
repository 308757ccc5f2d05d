use Rattle.std.proofs.Common.{bit_and, arith}
use Rattle.std.proofs.lemmas.Nat.{and_le_r}
use Rattle.std.proofs.lemmas.Simd.{zip2_of_maps}
use Rattle.nf_lanes.proofs.LookUpLemmas.{down, swz_ok, looked_up}
use Rattle.nf_lanes.proofs.sets.look_up.Goals as goal

pub swizzle-by_high : goal.swizzle-by_high
swizzle-by_high c = swz_ok down 4 c.args.lanes c.fits-lanes (λ a h. omega arith)

pub swizzle-by_low : goal.swizzle-by_low
swizzle-by_low c = swz_ok bit_and 15 c.args.lanes c.fits-lanes (λ a h. omega (arith, and_le_r a 15))

pub returns : goal.returns
returns c =
    zip2_of_maps bit_and _ _ c.args.lanes (looked_up down 4 _ c.fits-lanes (λ a h. omega arith) c.args.high.now) (looked_up bit_and 15 _ c.fits-lanes (λ a h. omega (arith, and_le_r a 15)) c.args.low.now)
