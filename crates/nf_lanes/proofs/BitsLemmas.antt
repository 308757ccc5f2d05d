-- What falls away of bits where a pair of bytes, or the next, is in no set.
use Rattle.std.proofs.Common.{◌≡◌, ◌+◌, ◌-◌, ◌<◌, ℕ, zero, suc, List, Bool, false, cond, bit_and, bit_or, bit_xor, get_or, sym, ap, ◌∙◌, arith, ◌/◌}
use Rattle.std.specs.Int.{bit_at}
use Rattle.std.specs.Int.Bits.{xor_add_and}
use Rattle.std.proofs.lemmas.Nat.{and_le_l, and_le_r, le_or_l, le_or_r}
use Rattle.std.proofs.lemmas.Nat.Bits.{bit_at_and, bit_at_lowest, bit_at_or, bit_at-lt, bit_at-suc, bit_at-zero}
use Rattle.nf_lanes.specs.Looks.{at_pair, is_in, left_after, NoneAfter, NoneFound}
use Rattle.nf_lanes.specs.Sets.{pair_sets}
use Rattle.nf_lanes.specs.declared.sets.Pairs.{Pairs}

-- 64 bits, the lowest for the first place
abbrev pub AreBits : ℕ → (ℕ → Bool) → ℕ → Type 0
AreBits bits p at = (k : ℕ) → k < 64 → bit_at bits k ≡ cond (p (at + k)) 1 0

pub narrower : (found others k : ℕ) → bit_at (bit_and found others) k ≡ 1 → bit_at found k ≡ 1
narrower found others k one = grind (arith, bit_at_and found others k, bit_at-lt found k)

some_of : (n t : ℕ) → bit_at n t ≡ 1 → 0 < n
some_of zero t one = absurd (omega (arith, one, bit_at-zero t))
some_of (suc n) t one = omega arith

-- m has no bit t, and those above it are n's
abbrev IsWithout : ℕ → ℕ → ℕ → Type 0
IsWithout t n m = (bit_at m t ≡ 0) × ((k : ℕ) → t < k → bit_at m k ≡ bit_at n k)

above_half : (t n m : ℕ) → m / 2 ≡ n / 2 → (k : ℕ) → t < k → bit_at m k ≡ bit_at n k
above_half t n m half zero more = absurd (omega (arith, more))
above_half t n m half (suc j) more = bit_at-suc m j ∙ ap (λ h. bit_at h j) half ∙ sym (bit_at-suc n j)

of_half : (t n m : ℕ) → m / 2 ≡ n / 2 - 1 → IsWithout t (n / 2) (n / 2 - 1) → IsWithout (suc t) n m
of_half t n m half rest = (bit_at-suc m t ∙ ap (λ h. bit_at h t) half ∙ rest.0, above)
  where
    above : (k : ℕ) → suc t < k → bit_at m k ≡ bit_at n k
    above zero more = absurd (omega (arith, more))
    above (suc j) more = bit_at-suc m j ∙ ap (λ h. bit_at h j) half ∙ rest.1 j (omega (arith, more)) ∙ sym (bit_at-suc n j)

-- so is one less than a number, of its lowest bit
pub one_less : (t n : ℕ) → bit_at n t ≡ 1 → ((k : ℕ) → k < t → bit_at n k ≡ 0) → IsWithout t n (n - 1)
one_less zero n one below = (omega (arith, bit_at_lowest (n - 1), bit_at_lowest n, one), above_half 0 n (n - 1) (omega (arith, bit_at_lowest n, one)))
one_less (suc t) n one below =
    let first : bit_at (n / 2) t ≡ 1 = sym (bit_at-suc n t) ∙ one in
    of_half t n (n - 1) (omega (arith, bit_at_lowest n, below 0 (omega arith), some_of (n / 2) t first)) (one_less t (n / 2) first (λ k less. sym (bit_at-suc n k) ∙ below (suc k) (omega (arith, less))))

-- a lead byte, and a pair after it in no set
pub none_after : (t : Pairs) (lead : ℕ) (bytes : List ℕ) (k : ℕ) → left_after t lead bytes k ≡ false → NoneAfter (is_in t) lead bytes k
none_after t lead bytes k told =
    let others = bit_xor (get_or bytes k 0) lead in
    let sets = pair_sets t (get_or bytes (k + 1) 0) (get_or bytes (k + 1 + 1) 0) in
    let same : others ≡ 0 = grind (arith, le_or_l others sets) in
    (omega (arith, same, xor_add_and (get_or bytes k 0) lead, and_le_l (get_or bytes k 0) lead, and_le_r (get_or bytes k 0) lead), grind (arith, le_or_r others sets))

module _ (bytes : List ℕ) (at k : ℕ) (few : k < 63) where
  -- where a bit falls away, neither of the two pairs is found
  pub none_found : (test : ℕ → ℕ → Bool) (found pairs : ℕ) → AreBits pairs (at_pair test bytes) at → bit_at found k ≡ 1 → bit_at (bit_and found (bit_or pairs (pairs / 2))) k ≡ 0 → NoneFound test bytes (at + k)
  none_found test found pairs are one none =
      grind (arith, are k, are (k + 1), bit_at_and found (bit_or pairs (pairs / 2)) k, bit_at_or pairs (pairs / 2) k, bit_at-suc pairs k)
