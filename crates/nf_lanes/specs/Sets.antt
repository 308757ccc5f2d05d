-- Eight sets of bytes and of pairs of them, each a bit, by the halves of each byte.
use Rattle.std.specs.Prelude.{ℕ, ◌/◌, List, slice_index, bit_and}
use Rattle.nf_lanes.specs.declared.sets.Pairs.{Pairs}

-- the sets that a byte, or two bytes, are in: those that each half allows
abbrev pub byte_sets : List ℕ → List ℕ → ℕ → ℕ
byte_sets high low byte = bit_and (slice_index high (byte / 16)) (slice_index low (bit_and byte 15))

abbrev pub pair_sets : Pairs → ℕ → ℕ → ℕ
pair_sets t first next = bit_and (byte_sets t.first_high t.first_low first) (byte_sets t.next_high t.next_low next)
