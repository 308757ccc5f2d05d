-- How many members two lists have in common at their front.
use Rattle.std.proofs.Common.{◌≡◌, ℕ, ◌<◌, zero, get_or, suc, ◌+◌, ◌≤◌, false, List, [], ◌∷◌, ◌++◌, length, take, length-take, ap, arith}
use Rattle.std.proofs.lemmas.Grind.{common_steps}
use Rattle.nf_filter.proofs.Common.{nat_tests}
use Rattle.nf_filter.specs.InCommon.{common, goes_on_with}

pub common-le-left : (x y : List ℕ) → common x y ≤ length x
common-le-left (a ∷ x) (b ∷ y) = grind (arith, common-le-left x y)
common-le-left _ _ = omega arith

pub take-common : (x y : List ℕ) → take (common x y) x ≡ take (common x y) y
take-common (a ∷ x) (b ∷ y) = grind (arith, nat_tests, take-common x y)
take-common _ _ = grind (arith, common_steps)

pub common-le-right : (x y : List ℕ) → common x y ≤ length y
common-le-right x y = grind (arith, common-le-left x y, ap length (take-common x y), length-take)

pub common-after : (t x y : List ℕ) → common (t ++ x) (t ++ y) ≡ length t + common x y
common-after [] x y = omega arith
common-after (a ∷ t) x y = grind (arith, nat_tests, common-after t x y)

pub common-front : (x more : List ℕ) → common (x ++ more) x ≡ length x
common-front (a ∷ x) more = grind (arith, nat_tests, common-front x more)
common-front [] more = omega (arith, common-le-right more [])

-- what ends within two lists goes on no further where they do
pub common-within : (x m y more : List ℕ) → common x m < length x → common x m < length m → common (x ++ y) (m ++ more) ≡ common x m
common-within (a ∷ x) (b ∷ m) y more p q = grind (arith, nat_tests, common-within x m y more)
common-within _ _ y more p q = absurd (omega arith)

-- where nothing is in common, one list goes on with another member than the second begins with
pub common-none : (x : List ℕ) (b : ℕ) (y : List ℕ) → common x (b ∷ y) ≡ 0 → goes_on_with b x ≡ false
common-none x b y e = grind arith

-- so many are in common, and the next of each are two
pub common-is : (n : ℕ) (x y : List ℕ) → take n x ≡ take n y → n ≤ length x → n ≤ length y → (n < length x → n < length y → get_or x n 0 ≡ get_or y n 0 → ⊥) → n ≡ common x y
common-is zero (c ∷ x) (d ∷ y) same a b differ = grind (arith, nat_tests)
common-is (suc n) (c ∷ x) (d ∷ y) same a b differ = grind (arith, nat_tests, common-is n x y)
common-is _ _ _ same a b differ = omega arith
