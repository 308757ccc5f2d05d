use Rattle.std.proofs.Common.{ℕ, nat_le, slice_index, arith}
use Rattle.std.proofs.lemmas.Bool.Decides.{nat_tests}
use Rattle.std.proofs.lemmas.Nat.Bits.{bit_at_and, bit_at_ones, bit_at_ones_above}
use Rattle.nf_lanes.proofs.PlacesLemmas.{bits_at-below}
use Rattle.nf_lanes.proofs.looks.lead_bits.Goals as goal

pub of_64-all-requires : goal.of_64-all-requires
of_64-all-requires c = search (arith, bits_at-below)

pub returns : goal.returns
returns c =
    let are = c.of_64-all.ensures (λ (k : ℕ). nat_le 0xC0 (slice_index c.args.bytes.now k)) c.args.at c.at_least.ensures c.at_least-2.ensures c.at_least-3.ensures c.at_least-4.ensures in
    record {
      leads = λ k within one. grind (arith, nat_tests, are k within, bit_at_and c.of_64-all.result 0x7FFF_FFFF_FFFF_FFFF k, bit_at_ones_above 63);
      all = λ k few high. grind (arith, nat_tests, are k, bit_at_and c.of_64-all.result 0x7FFF_FFFF_FFFF_FFFF k, bit_at_ones 63);
    }
