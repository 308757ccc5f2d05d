-- The bytes below 80 under the lanes of one load.
use Rattle.nf_utf8.proofs.Common.{w64, ◌≡◌, ℕ, ◌+◌, ◌%◌, ◌^◌, ◌<◌, ◌≤◌, Bool, false, not, leb, List, map, length, take, get_or, ◌∙◌, arith, nat_tests, prefix_len, IsAscii, leb-true, length-map, get_or_past, get_or-take, length-take-le, mask_l-mod, bit_mask_l, length-chunk, trailing_mask_l, run_in_chunk_fails, run_in_chunk_stops, none_from_empty_mask, chunk, mask_l}
use Rattle.std.proofs.lemmas.Str.Ascii.{IsAscii-from_reads}
use Rattle.std.proofs.lemmas.Nat.Bits.{bit_at-trailing_zeros}
use lib.Count.{count_trailing_zeros}

abbrev pub is_other : ℕ → Bool
is_other byte = leb 0x80 byte

-- the bits of the lanes that pass are a number of 64 bits
pub mask_is : (p : ℕ → Bool) (lanes : List ℕ) (tops : List Bool) → length lanes ≤ 64 → tops ≡ map p lanes → mask_l tops % 2 ^ 64 ≡ mask_l (map p lanes)
mask_is p lanes tops few same = rw same (mask_l-mod (map p lanes) 64 (omega (arith, few, length-map lanes p)))

module _ (bytes : List ℕ) (at n : ℕ) (room : at + n ≤ length bytes) (before : (k : ℕ) → k < at → get_or bytes k 0 < 0x80) where
  abbrev mask : ℕ
  mask = mask_l (map is_other (chunk at n bytes))

  pub all_below : mask ≡ 0 → (k : ℕ) → k < at + n → get_or bytes k 0 < 0x80
  all_below none k inside = grind (arith, nat_tests, before k, none_from_empty_mask is_other bytes at n 0 room none k)

  module _ (few : n ≤ 64) (some : ¬ (mask ≡ 0)) where
    abbrev run : ℕ
    run = count_trailing_zeros 64 mask

    counted : run ≡ prefix_len (λ x. not (is_other x)) (chunk at n bytes)
    counted = trailing_mask_l is_other 64 (chunk at n bytes) (omega (arith, length-chunk at n bytes room)) (omega (arith, some))

    run_short : run < n
    run_short =
        let lanes : List Bool = map is_other (chunk at n bytes) in
        let many : length lanes ≡ n = length-map (chunk at n bytes) is_other ∙ length-chunk at n bytes room in
        let set = bit_at-trailing_zeros w64 mask (omega (arith, some)) (omega (arith, mask_l-mod lanes 64 (omega (arith, few, many)))) in
        grind (arith, set.1, bit_mask_l lanes run, get_or_past lanes run false)

    pub run_is : (at + run ≤ length bytes) × IsAscii (take (at + run) bytes) × (0x80 ≤ get_or bytes (at + run) 0)
    run_is =
        let below : (k : ℕ) → k < at + run → get_or bytes k 0 < 0x80 =
        λ k inside. grind (arith, nat_tests, before k, run_in_chunk_fails is_other bytes at n run 0 room counted k) in
        let size = length-take-le (at + run) bytes (omega (arith, run_short)) in (
          omega (arith, run_short),
          IsAscii-from_reads _ (at + run) (omega (arith, size)) (λ k inside. omega (arith, below k inside, get_or-take (at + run) bytes k 0 inside)),
          leb-true 0x80 _ (run_in_chunk_stops is_other bytes at n run 0 room counted run_short),
        )
