-- 16 places, and what is read from them.
use Rattle.std.proofs.Common.{◌≡◌, ℕ, zero, suc, ◌+◌, ◌-◌, ◌*◌, ◌<◌, ◌≤◌, ◌==◌, Bool, false, not, cond, bit_or, List, map, length, get_or, refl, sym, ap, ◌∙◌, arith}
use Rattle.std.specs.List.{prefix_len, range_with_len}
use Rattle.std.proofs.lemmas.List.Sums.{prefix_len_passes}
use Rattle.std.specs.Int.{bit_at}
use Rattle.std.proofs.lemmas.Bool.Decides.{nat_tests}
use Rattle.std.proofs.lemmas.List.{get_or-map, length-map}
use Rattle.std.proofs.lemmas.Nat.{le_or_l, le_or_r}
use Rattle.std.proofs.lemmas.Nat.Bits.{bit_at_cat_low, bit_at_cat_high}
use Rattle.std.proofs.lemmas.List.FromFn.{get_or-range_with_len, length-range_with_len}
use Rattle.std.proofs.lemmas.Simd.{map-map, pick_l-range_with_len, first_set_mask_l, mask_l-lt, bit_mask_l}
use lib.Lanes.{chunk, mask_l}
use Rattle.nf_lanes.specs.Lanes.{places, bits_at, NonePass}

pub length-places : (at : ℕ) → length (places at) ≡ 16
unfolding places
length-places at = length-range_with_len at 16

get_or-places : (at i : ℕ) → i < 16 → get_or (places at) i 0 ≡ at + i
unfolding places
get_or-places at i within = get_or-range_with_len at 16 i 0 within

-- the bytes that are loaded from a place on
pub loaded : {V : Type 0} (g : ℕ → V) (bytes : List ℕ) (at : ℕ) → at + 16 ≤ length bytes → map g (chunk at 16 bytes) ≡ map (λ k. g (get_or bytes k 0)) (places at)
unfolding places
loaded g bytes at room = ap (map g) (sym (pick_l-range_with_len 0 bytes at 16 room)) ∙ map-map g (λ k. get_or bytes k 0) (range_with_len at 16)

-- the places n after those
range_after : {V : Type 0} (h : ℕ → V) (at n len : ℕ) → map h (range_with_len (at + n) len) ≡ map (λ k. h (k + n)) (range_with_len at len)
range_after h at n zero = refl
range_after h at n (suc len) =
    let next : at + n + 1 ≡ at + 1 + n = omega arith in
    rw (next, range_after h (at + 1) n len)

pub places_after : {V : Type 0} (h : ℕ → V) (at n : ℕ) → map h (places (at + n)) ≡ map (λ k. h (k + n)) (places at)
unfolding places
places_after h at n = range_after h at n 16

module _ (p : ℕ → Bool) (at found : ℕ) (is : found ≡ bits_at p at) where
  pub none_from_zero : found ≡ 0 → NonePass p at 16
  none_from_zero none = λ k low high. grind (arith, all, get_or-places at (k - at), prefix_len_passes fails (places at) (k - at) 0)
    where
      fails : ℕ → Bool
      fails k = not (p k)

      all : 16 ≡ prefix_len fails (places at)
      all = rw (← is, none) at (first_set_mask_l p (places at) 16 (length-places at) (omega arith))

  pub zero_from_none : NonePass p at 16 → found ≡ 0
  unfolding places
  zero_from_none none = is ∙ clear at 16 none
    where
      clear : (from n : ℕ) → NonePass p from n → mask_l (map p (range_with_len from n)) ≡ 0
      clear from zero none = refl
      clear from (suc n) none = rw (none from (omega arith) (omega arith), clear (from + 1) n (λ k low high. none k (omega arith) (omega arith)))

-- what four places, 16 from one another, have together
abbrev of_four : (ℕ → ℕ) → ℕ → ℕ
of_four h k = bit_or (bit_or (bit_or (h k) (h (k + 16))) (h (k + 32))) (h (k + 48))

module _ (h : ℕ → ℕ) (at found : ℕ) (is : found ≡ bits_at (λ k. not (of_four h k == 0)) at) where
  all_zero : (a b c d : ℕ) → bit_or (bit_or (bit_or a b) c) d ≡ 0 → (a ≡ 0) × (b ≡ 0) × (c ≡ 0) × (d ≡ 0)
  all_zero a b c d e =
      let three = le_or_l (bit_or (bit_or a b) c) d in
      let two = le_or_l (bit_or a b) c in
      (omega (arith, e, three, two, le_or_l a b), omega (arith, e, three, two, le_or_r a b), omega (arith, e, three, le_or_r (bit_or a b) c), omega (arith, e, le_or_r (bit_or (bit_or a b) c) d))

  of_place : found ≡ 0 → (k : ℕ) → at ≤ k → k < at + 16 → (h k ≡ 0) × (h (k + 16) ≡ 0) × (h (k + 32) ≡ 0) × (h (k + 48) ≡ 0)
  of_place none k low high = all_zero _ _ _ _ (grind (arith, nat_tests, none_from_zero (λ k. not (of_four h k == 0)) at found is none k))

  pub none_from_four : found ≡ 0 → NonePass (λ k. not (h k == 0)) at 64
  none_from_four none k low high = grind (arith, nat_tests, of_place none k, of_place none (k - 16), of_place none (k - 32), of_place none (k - 48))

  pub four_from_none : NonePass (λ k. not (h k == 0)) at 64 → found ≡ 0
  four_from_none none =
      zero_from_none _ at found is (λ k low high. grind (arith, nat_tests, none k, none (k + 16), none (k + 32), none (k + 48)))

pub bits_at-below : (p : ℕ → Bool) (at : ℕ) → bits_at p at < 65536
bits_at-below p at = rw (length-map, length-places at) at (mask_l-lt (map p (places at)))

-- a bit of 16, and of 16 that stand below others
pub bit_of : (p : ℕ → Bool) (at bits k place : ℕ) → bits ≡ bits_at p at → place ≡ at + k → k < 16 → bit_at bits k ≡ cond (p place) 1 0
bit_of p at bits k place is there within =
    rw (is, bit_mask_l, get_or-map p (places at) k 0 false (omega (arith, length-places at)), get_or-places at k within, there)

pub bit_below : (p : ℕ → Bool) (at rest bits k place : ℕ) → bits ≡ bits_at p at → place ≡ at + k → ((j : ℕ) → k ≡ 16 + j → bit_at rest j ≡ cond (p place) 1 0) → bit_at (rest * 65536 + bits) k ≡ cond (p place) 1 0
bit_below p at rest bits k place is there others =
    grind (arith, bit_at_cat_low rest 16 bits k, bit_of p at bits k place is there, bit_at_cat_high rest 16 bits k, bits_at-below p at, others (k - 16))
