-- 16 places of a text, and a bit for each.
use Rattle.std.specs.Prelude.{◌≡◌, ◌<◌, ◌≤◌, ℕ, ◌+◌, Bool, false, List, map}
use Rattle.std.specs.List.{range_with_len}
use Rattle.std.specs.Simd.Lanes.{mask_l}

-- 16 places, from one on
unfoldable pub places : ℕ → List ℕ
places at = range_with_len at 16

-- the bits of those that pass the test, the lowest for the first
abbrev pub bits_at : (ℕ → Bool) → ℕ → ℕ
bits_at p at = mask_l (map p (places at))

-- of n places from one on none passes
abbrev pub NonePass : (ℕ → Bool) → ℕ → ℕ → Type 0
NonePass p at n = (k : ℕ) → at ≤ k → k < at + n → p k ≡ false
