-- Induction on a text from its last code point.
use Rattle.std.proofs.Common.{ℕ, List, [], ◌∷◌, ◌++◌, sym, subst, append_assoc}
use Rattle.std.proofs.lemmas.List.{append-nil}

module _ (P : List ℕ → Type 0) (start : P []) (step : (x : List ℕ) (c : ℕ) → P x → P (x ++ c ∷ [])) where
  from_front : (x rest : List ℕ) → P x → P (x ++ rest)
  from_front x [] h = subst P (sym (append-nil x)) h
  from_front x (c ∷ rest) h = subst P (append_assoc x (c ∷ []) rest) (from_front (x ++ c ∷ []) rest (step x c h))

  pub by_last : (x : List ℕ) → P x
  by_last x = from_front [] x start
