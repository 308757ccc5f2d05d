use Rattle.std.proofs.Common.{ℕ, ◌+◌, ◌≤◌, length, bit_or, bit_xor, get_or, arith, ◌∙◌}
use Rattle.std.proofs.lemmas.Simd.{length-chunk, zip2_of_maps, zip2_splat}
use lib.Lanes.{chunk}
use Rattle.nf_lanes.specs.Lanes.{places}
use Rattle.nf_lanes.specs.Sets.{pair_sets}
use Rattle.nf_lanes.proofs.PlacesLemmas.{loaded, places_after}
use Rattle.nf_lanes.proofs.looks.left_after.Goals as goal

pub returns-clause-few : goal.returns-clause-few
returns-clause-few c = c.bits.ensures.few

pub returns-clause-left : goal.returns-clause-left
returns-clause-left c =
    let bytes = c.args.bytes.now in
    let at = c.args.at in
    let lead = c.args.lead in
    let room : at + 16 ≤ length bytes = omega (arith, c.requires.room) in
    let sets : ℕ → ℕ = λ k. pair_sets c.args.family.now (get_or bytes k 0) (get_or bytes (k + 1) 0) in
    let others : ℕ → ℕ = λ k. bit_xor (get_or bytes k 0) lead in
    c.bits.ensures.each (λ k. bit_or (others k) (sets (k + 1))) at
    (zip2_of_maps bit_or others (λ k. sets (k + 1)) (places at)
    (zip2_splat bit_xor (chunk at 16 bytes) 16 lead (length-chunk at 16 bytes room) ∙ loaded (λ a. bit_xor a lead) bytes at room)
    (c.pair_sets.ensures ∙ places_after sets at 1))
