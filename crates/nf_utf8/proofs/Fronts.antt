-- The longest front of a list that has a property.
use Rattle.nf_utf8.proofs.Common.{◌≡◌, ℕ, ◌+◌, ◌-◌, ◌≤◌, List, ◌++◌, length, take, ⊎_elim, arith, length-append, order, take-append-add}

pub record IsLongestFront (P : List ℕ → Type 0) (xs : List ℕ) (n : ℕ) : Type 0 where
  pub within : n ≤ length xs
  pub holds : P (take n xs)
  pub longest : (m : ℕ) → m ≤ length xs → P (take m xs) → m ≤ n

module _ {P : List ℕ → Type 0} where
  -- only one length is
  pub longest_same : {xs : List ℕ} {m n : ℕ} → IsLongestFront P xs m → IsLongestFront P xs n → m ≡ n
  longest_same {m = m} {n = n} a b = omega (arith, b.longest m a.within a.holds, a.longest n b.within b.holds)

  -- after bytes that do not matter to the property
  pub longest_after : (xs : List ℕ) {ys : List ℕ} {n : ℕ} → ((zs : List ℕ) → P zs → P (xs ++ zs)) → ((zs : List ℕ) → P (xs ++ zs) → P zs)
      → IsLongestFront P ys n → IsLongestFront P (xs ++ ys) (length xs + n)
  longest_after xs {ys} {n} add cancel h = record {
    within = omega (arith, h.within, length-append xs ys);
    holds = rw take-append-add (add (take n ys) h.holds);
    longest = λ m le p. ⊎_elim (λ below. omega arith)
        (λ past.
        let split : m ≡ length xs + (m - length xs) = omega arith in
        omega (arith, h.longest (m - length xs) (omega (arith, le, length-append xs ys)) (cancel _ (rw take-append-add at (rw split at p)))))
        (order m (length xs));
  }
