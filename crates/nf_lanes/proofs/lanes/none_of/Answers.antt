use Rattle.std.proofs.Common.{◌+◌, bit_or, ◌∙◌, arith}
use Rattle.std.proofs.lemmas.Bool.Decides.{nat_tests}
use Rattle.std.proofs.lemmas.Simd.{zip2_of_maps}
use Rattle.nf_lanes.specs.Lanes.{places}
use Rattle.nf_lanes.proofs.PlacesLemmas.{places_after, none_from_four, four_from_none}
use Rattle.nf_lanes.proofs.lanes.none_of.Goals as goal

pub returns : goal.returns
returns c h at first second third last =
    let two = zip2_of_maps bit_or h (λ k. h (k + 16)) (places at) first (second ∙ places_after h at 16) in
    let three = zip2_of_maps bit_or _ (λ k. h (k + 32)) (places at) two (third ∙ places_after h at 32) in
    let four = zip2_of_maps bit_or _ (λ k. h (k + 48)) (places at) three (last ∙ places_after h at 48) in
    let is = c.bits.ensures.each _ at four in
    (λ e. none_from_four h at _ is (grind (arith, nat_tests, e)), λ none. grind (arith, nat_tests, four_from_none h at _ is none))
