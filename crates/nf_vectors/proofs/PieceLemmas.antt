-- The pieces of a row.
use Rattle.nf_vectors.proofs.Common.{inl, inr, ◌≡◌, ◌+◌, count_by, ℕ, ◌<◌, Bool, true, false, List, [], ◌∷◌, length, Err, refl, arith, not, slice_split, before_first, after_first, position_or_len, list_all, cases_lt, nat_tests, slice_split_first, slice_split_none, fails_before_first, AllPass-from_list_all, prefix_len-le-length, Fields, is_semicolon, is_blank, columns_in}
use Rattle.std.proofs.lemmas.List.Splits.{length-slice_split}

-- bytes are cut at the first semicolon
pub split-cut : (bytes first rest : List ℕ) → (position_or_len is_semicolon bytes < length bytes) × (first ≡ before_first is_semicolon bytes) × (rest ≡ after_first is_semicolon bytes)
    → slice_split is_semicolon bytes ≡ first ∷ slice_split is_semicolon rest
split-cut bytes first rest parts = rw (parts.1, parts.2) (slice_split_first is_semicolon bytes 0 parts.0)

pub split-none : (bytes : List ℕ) → position_or_len is_semicolon bytes ≡ length bytes → slice_split is_semicolon bytes ≡ bytes ∷ []
split-none bytes end = slice_split_none is_semicolon bytes (λ k d within. fails_before_first is_semicolon bytes k d (omega arith))

-- there is a first part
pub split-some : (test : ℕ → Bool) (bytes : List ℕ) → (first : List ℕ) × (rest : List (List ℕ)) × (slice_split test bytes ≡ first ∷ rest)
split-some test bytes = next (slice_split test bytes) (length-slice_split test bytes)
  where
    next : (parts : List (List ℕ)) → length parts ≡ count_by test bytes + 1 → (first : List ℕ) × (rest : List (List ℕ)) × (parts ≡ first ∷ rest)
    next [] e = absurd (omega (arith, e))
    next (first ∷ rest) e = (first, rest, refl)

pub split-blank : (bytes : List ℕ) → list_all is_blank bytes ≡ true → slice_split is_semicolon bytes ≡ bytes ∷ []
split-blank bytes blank = slice_split_none is_semicolon bytes (λ k d within. grind (arith, nat_tests, AllPass-from_list_all is_blank bytes blank k d within))

-- after the fifth piece stands another that is not blank, and perhaps more
pub columns_in-more : (a b c d e v : List ℕ) → list_all is_blank v ≡ false → columns_in (a ∷ b ∷ c ∷ d ∷ e ∷ slice_split is_semicolon v) ≡ Err Fields
columns_in-more a b c d e v other = elim (cases_lt (position_or_len is_semicolon v) (length v)) [
  | inl inside ↦ rw (slice_split_first is_semicolon v 0 inside, (split-some is_semicolon (after_first is_semicolon v)).2) refl
  | inr past ↦ rw (split-none v (omega (arith, prefix_len-le-length (λ b. not (is_semicolon b)) v)), other) refl
]
