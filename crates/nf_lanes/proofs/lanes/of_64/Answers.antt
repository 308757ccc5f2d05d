use Rattle.std.proofs.Common.{◌+◌, arith}
use Rattle.nf_lanes.proofs.PlacesLemmas.{bit_of, bit_below}
use Rattle.nf_lanes.proofs.lanes.of_64.Goals as goal

pub returns : goal.returns
returns c p at first second third last k within =
    let place = at + k in
    bit_below p at _ _ k place first (omega arith) (λ i e. bit_below p (at + 16) _ _ i place second (omega (arith, e))
    (λ j e'. bit_below p (at + 32) _ _ j place third (omega (arith, e, e')) (λ h e''. bit_of p (at + 48) _ h place last (omega (arith, e, e', e'')) (omega (arith, within, e, e', e'')))))
