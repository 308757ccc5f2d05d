-- A sweep of one code more.
use Rattle.std.proofs.Common.{add-one}
use Rattle.nf_vectors.proofs.Common.{◌≡◌, ℕ, zero, suc, ◌+◌, ◌≤◌, length, true, false, is_scalar, InScalarRange, OutOfScalarRange, nat_tests, cond, List, Some, None, refl, arith, option_or, length_push, sum_by_push, count_by-le-length, find-append, Properties, VectorRow, is_unlisted, is_failed, below, sweep_below}

-- the scalar values, as ranges
pub scalar_in : (c : ℕ) → InScalarRange c → is_scalar c ≡ true
scalar_in c h = grind (arith, nat_tests)

pub scalar_out : (c : ℕ) → OutOfScalarRange c → is_scalar c ≡ false
scalar_out c h = grind (arith, nat_tests)

length-below : (n : ℕ) → length (below n) ≡ n
unfolding below
length-below zero = refl
length-below (suc n) = omega (arith, length-below n, length_push (below n) n)

module _ (p : Properties) (rows : List VectorRow) (n : ℕ) where
  pub sweep-more : sweep_below p rows (n + 1) ≡ record {
    unlisted = (sweep_below p rows n).unlisted + cond (is_unlisted rows n) 1 0;
    failed = (sweep_below p rows n).failed + cond (is_failed p rows n) 1 0;
    first = option_or (sweep_below p rows n).first (cond (is_failed p rows n) (Some n) None);
  }
  unfolding below
  sweep-more = simp (add-one, sum_by_push, find-append)

  -- there are no more than characters
  pub sweep-few : ((sweep_below p rows n).unlisted ≤ n) × ((sweep_below p rows n).failed ≤ n)
  sweep-few = (
    omega (arith, count_by-le-length (is_unlisted rows) (below n), length-below n),
    omega (arith, count_by-le-length (is_failed p rows) (below n), length-below n),
  )
