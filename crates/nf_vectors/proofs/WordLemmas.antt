-- The code points of a column, word by word.
use Rattle.std.specs.Iterator.{Yields}
use Rattle.nf_vectors.proofs.Common.{nat_tests, YieldsList, YieldsList-turn, YieldsList-end, Bor, ◌==◌, ◌≡◌, ◌+◌, Option, Some, None, drop_all, length_push, length-append, IfOk, ℕ, ◌≤◌, Bool, true, false, cond, List, [], ◌∷◌, ◌++◌, length, drop, Result, Ok, Err, refl, sym, ap, ◌∙◌, arith, append_assoc, append-nil, sum_by, slice_split, onto_first, drop_more, sum_by-cons, VectorKind, Empty, is_gap, code_point, and_then, before, code_points, column_in, HoldsColumn}

before-before : (cs : List ℕ) (c : ℕ) (r : Result (List ℕ) VectorKind) → before cs (before (c ∷ []) r) ≡ before (cs ++ c ∷ []) r
before-before cs c r = grind (arith, append_assoc)

code_points-word : (word : List ℕ) (words : List (List ℕ)) → (length word == 0) ≡ false → code_points (word ∷ words) ≡ and_then (code_point word) (λ c. before (c ∷ []) (code_points words))
code_points-word [] words some = cc
code_points-word (b ∷ bs) words some = refl

code_points-empty : (word : List ℕ) (words : List (List ℕ)) → (length word == 0) ≡ true → code_points (word ∷ words) ≡ code_points words
code_points-empty [] words none = refl
code_points-empty (b ∷ bs) words none = absurd (grind (arith, nat_tests))

-- there are no more code points than bytes
code_points-le : (words : List (List ℕ)) → IfOk (code_points words) (λ codes. length codes ≤ sum_by length words)
code_points-le [] = omega arith
code_points-le ([] ∷ words) = grind (arith, code_points-le words, sum_by-cons length [] words)
code_points-le ((b ∷ bs) ∷ words) = grind (arith, code_points-le words, sum_by-cons length (b ∷ bs) words)

split-le : (p : ℕ → Bool) (bytes : List ℕ) → sum_by length (slice_split p bytes) ≤ length bytes
split-le p [] = omega (arith, sum_by-cons (length {A = ℕ}) [] [])
split-le p (b ∷ bytes) = next (p b) (slice_split p bytes) (split-le p bytes)
  where
    next : (e : Bool) (parts : List (List ℕ)) → sum_by length parts ≤ length bytes → sum_by length (cond e ([] ∷ parts) (onto_first b parts)) ≤ length (b ∷ bytes)
    next true parts le = omega (arith, le, sum_by-cons length [] parts)
    next false [] le = omega (arith, sum_by-cons length (b ∷ []) [])
    next false (part ∷ parts) le = omega (arith, le, sum_by-cons length part parts, sum_by-cons length (b ∷ part) parts)

-- the text has grown from old to new by the code points of these words, which are the first of the column
pub record HasRead {S : Type 0} (steps : S → Option (Bor (List ℕ)) → S → Type 0) (s : S) (column old : List ℕ) (words : List (Bor (List ℕ))) (new : List ℕ) : Type 0 where
  pub yields : YieldsList steps (λ word. word.now) s (slice_split is_gap column)
  pub so_far : before old (code_points (slice_split is_gap column)) ≡ before new (code_points (drop (length words) (slice_split is_gap column)))

module _ {S : Type 0} {steps : S → Option (Bor (List ℕ)) → S → Type 0} {s t : S} {column old new : List ℕ} {words : List (Bor (List ℕ))} (read : HasRead steps s column old words new) (gave : Yields steps s words t)
    {r : Option (Bor (List ℕ))} {u : S} (step : steps t r u) where
  -- one word more
  module _ {word : Bor (List ℕ)} (some : r ≡ Some word) {none : Bool} (is_empty : none ≡ (length word.now == 0)) where
    abbrev rest : List (List ℕ)
    rest = drop (length (words ++ word ∷ [])) (slice_split is_gap column)

    at_word : before old (code_points (slice_split is_gap column)) ≡ before new (code_points (word.now ∷ rest))
    at_word =
        let turn = YieldsList-turn read.yields words t gave r u word some step in
        rw (read.so_far, drop_more (slice_split is_gap column) (length words) word.now turn.0, ← turn.1, length_push) refl

    pub skipped : none ≡ true → HasRead steps s column old (words ++ word ∷ []) new
    skipped empty = record { yields = read.yields; so_far = rw (at_word, code_points-empty word.now rest (sym is_empty ∙ empty)) refl }

    pub pushed : none ≡ false → (c : ℕ) → Ok c ≡ code_point word.now → HasRead steps s column old (words ++ word ∷ []) (new ++ c ∷ [])
    pushed letters c e = record { yields = read.yields; so_far = rw (at_word, code_points-word word.now rest (sym is_empty ∙ letters), ← e) (before-before new c (code_points rest)) }

    pub refused : none ≡ false → (kind : VectorKind) → Err kind ≡ code_point word.now → column_in column ≡ Err kind
    unfolding column_in
    refused letters kind e = grind (arith, at_word, code_points-word word.now rest, is_empty, letters, e)

  -- no more words
  module _ (none : r ≡ None) where
    whole : HoldsColumn old new (code_points (slice_split is_gap column))
    whole =
        let end = drop_all (length words) (slice_split is_gap column) (omega (arith, (YieldsList-end read.yields words t gave r u none step).1)) in
        by (code_points (slice_split is_gap column)) (rw (read.so_far, end, append-nil) refl)
      where
        by : (read : Result (List ℕ) VectorKind) → before old read ≡ Ok new → HoldsColumn old new read
        by (Ok codes) e = (codes, refl, cc)
        by (Err kind) e = cc

    pub empty : length new ≡ length old → column_in column ≡ Err Empty
    unfolding column_in
    empty same = grind (arith, whole.1, ap length whole.2, length-append old whole.0)

    pub held : ¬ (length new ≡ length old) → HoldsColumn old new (column_in column)
    unfolding column_in
    held other = (whole.0, grind (arith, whole.1, whole.2, append-nil), whole.2)

    pub few : (length old ≤ length new) × (length new ≤ length old + length column)
    few = grind (arith, whole.1, code_points-le (slice_split is_gap column), split-le is_gap column, ap length whole.2, length-append old whole.0)
