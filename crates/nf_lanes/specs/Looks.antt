-- Pairs of bytes of UTF-8 (The Unicode Standard, section 3.9, Table 3-6) at which a text is looked up.
use Rattle.std.specs.Prelude.{◌≡◌, ℕ, ◌+◌, Bool, false, not, ◌==◌, List, slice_index, bit_or, bit_xor}
use Rattle.nf_lanes.specs.Sets.{pair_sets}
use Rattle.nf_lanes.specs.declared.sets.Pairs.{Pairs}

-- the pair is in a set of the family
abbrev pub is_in : Pairs → ℕ → ℕ → Bool
is_in t byte next = not (pair_sets t byte next == 0)

-- what is so of the byte at k and the one after it
abbrev pub at_pair : (ℕ → ℕ → Bool) → List ℕ → ℕ → Bool
at_pair test bytes k = test (slice_index bytes k) (slice_index bytes (k + 1))

-- neither of the two pairs from k on is found
abbrev pub NoneFound : (ℕ → ℕ → Bool) → List ℕ → ℕ → Type 0
NoneFound test bytes k = (at_pair test bytes k ≡ false) × (at_pair test bytes (k + 1) ≡ false)

-- the byte at k is this lead byte, and the two after it are not found
abbrev pub NoneAfter : (ℕ → ℕ → Bool) → ℕ → List ℕ → ℕ → Type 0
NoneAfter test lead bytes k = (slice_index bytes k ≡ lead) × (at_pair test bytes (k + 1) ≡ false)

-- this is not so: the two are in a set, or the byte at k differs from the lead byte in a bit
abbrev pub left_after : Pairs → ℕ → List ℕ → ℕ → Bool
left_after t lead bytes k = not (bit_or (bit_xor (slice_index bytes k) lead) (pair_sets t (slice_index bytes (k + 1)) (slice_index bytes (k + 1 + 1))) == 0)
