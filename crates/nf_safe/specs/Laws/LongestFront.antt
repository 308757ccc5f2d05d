-- The longest front of a text that grows at its end, and what makes it the longest.
use Rattle.std.proofs.Common.{◌≡◌, ℕ, zero, suc, ◌+◌, ◌≤◌, Bool, true, List, [], ◌∷◌, ◌++◌, length, take, refl, sym, ap, ◌∙◌, arith, ⊎_elim, eq-or-lt_of_le, add-one}
use Rattle.std.specs.Prelude.{if◌then◌else◌}
use Rattle.std.proofs.lemmas.Bool.{cond_both, false≢true}
use Rattle.std.proofs.lemmas.List.{length-append, take-append-le}
use Rattle.std.proofs.Math.Seq.{take-length}
use Rattle.nf_safe.specs.LongestFront.{front_len_up_to, longest_front, IsLongestFront}

module _ (test : List ℕ → Bool) (x : List ℕ) where
  front_len_up_to-append : (y : List ℕ) (n : ℕ) → n ≤ length x → front_len_up_to test (x ++ y) n ≡ front_len_up_to test x n
  front_len_up_to-append y zero within = refl
  front_len_up_to-append y (suc n) within =
      rw (take-append-le (suc n) x y within, front_len_up_to-append y n (omega arith))

  pub longest_front-push : (c : ℕ) → longest_front test (x ++ c ∷ []) ≡ (if test (x ++ c ∷ []) then length x + 1 else longest_front test x)
  unfolding longest_front
  longest_front-push c =
      let len : length (x ++ c ∷ []) ≡ suc (length x) = omega (arith, length-append x (c ∷ [])) in
      let whole = ap (λ n. take n (x ++ c ∷ [])) (sym len) ∙ take-length (x ++ c ∷ []) in
      rw (len, whole, front_len_up_to-append (c ∷ []) (length x) (omega arith), add-one)

  pub longest_front-le : longest_front test x ≤ length x
  unfolding longest_front
  longest_front-le = up_to (length x)
    where
      up_to : (n : ℕ) → front_len_up_to test x n ≤ n
      up_to zero = omega arith
      up_to (suc n) = cond_both (test (take (suc n) x)) _ _ (λ m. m ≤ suc n) (λ _. omega arith) (λ _. omega (arith, up_to n))

  -- it is no shorter than a front that passes
  pub longest_front-ge : (k : ℕ) → k ≤ length x → test (take k x) ≡ true → k ≤ longest_front test x
  unfolding longest_front
  longest_front-ge k within pass = up_to (length x) within
    where
      up_to : (n : ℕ) → k ≤ n → k ≤ front_len_up_to test x n
      up_to zero below = below
      up_to (suc n) below =
          cond_both (test (take (suc n) x)) _ _ (λ m. k ≤ m) (λ _. below)
          (λ out. ⊎_elim (λ same. absurd (false≢true (sym out ∙ ap (λ m. test (take m x)) (sym same) ∙ pass))) (λ less. up_to n (omega arith)) (eq-or-lt_of_le below))

  -- a text that passes is its own longest front
  pub longest_front-all : test x ≡ true → longest_front test x ≡ length x
  longest_front-all pass = omega (arith, longest_front-le, longest_front-ge (length x) (omega arith) (ap test (take-length x) ∙ pass))

  pub longest_front_is : test [] ≡ true → IsLongestFront test x (longest_front test x)
  unfolding longest_front
  longest_front_is empty = record {
    within = longest_front-le;
    passes = up_to (length x);
    longer = λ k above within. grind (arith, longest_front-ge k within);
  }
    where
      up_to : (n : ℕ) → test (take (front_len_up_to test x n) x) ≡ true
      up_to zero = empty
      up_to (suc n) = cond_both (test (take (suc n) x)) _ _ (λ m. test (take m x) ≡ true) (λ e. e) (λ _. up_to n)
