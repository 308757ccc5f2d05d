use Rattle.nf_vectors.proofs.Common.{◌^◌, ℕ, ◌<◌, ◌≤◌, arith}
use Rattle.std.proofs.Math.Nat.{pow-le-pow_right}
use Rattle.nf_vectors.proofs.word.code_point.Goals as goal

-- five digits and one more fit 32 bits
few : (i n : ℕ) → i < n → n ≤ 6 → 16 ^ i ≤ 16 ^ 5
few i n below most = let le : i ≤ 5 = omega (arith, below, most) in pow-le-pow_right {n = 16} (omega arith) le

pub overflow_mul-value : goal.overflow_mul-value
overflow_mul-value c = grind (arith, few)

pub overflow_add-value : goal.overflow_add-value
overflow_add-value c = grind (arith, few)
