use Rattle.std.proofs.Common.{not, eqb, map, ◌∙◌, arith, w8}
use Rattle.std.proofs.lemmas.List.{length-map}
use Rattle.std.proofs.lemmas.Simd.{bitmask_splat, map-map, mask_l-lt}
use Rattle.nf_lanes.proofs.lanes.bits.Goals as goal

pub returns-clause-few : goal.returns-clause-few
returns-clause-few c =
    let lanes = map (λ a. not (eqb a 0)) c.args.lanes in
    rw (bitmask_splat w8 (λ a b. not (eqb a b)) c.args.lanes 16 0 c.fits-lanes.0 (omega arith)) (rw (length-map, c.fits-lanes.0) at (mask_l-lt lanes))

pub returns-clause-each : goal.returns-clause-each
returns-clause-each c h at is =
    bitmask_splat w8 (λ a b. not (eqb a b)) c.args.lanes 16 0 c.fits-lanes.0 (omega arith) ∙ rw (is, map-map)
