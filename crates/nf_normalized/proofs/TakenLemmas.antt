-- A text in a form, and what the form makes of it without its last character, over any character data.
use Rattle.nf_normalized.proofs.Common.{◌≡◌, ℕ, ◌≤◌, ◌<◌, Bool, true, false, List, [], ◌∷◌, ◌++◌, length, flat_map, Option, Some, None, refl, arith, ◌⊎◌, inl, inr, append_assoc, cases_Bool, or_left, length-append, fold, Properties, is_starter, has_starter, order, composite, joined, replaced, compose_step, compose, arranged, last_starter, order_after-at, compose_step-at, compose_step-none, joined-some, joined-starter, joined-after_marks, BeginsInStarter}
use Rattle.std.proofs.lemmas.Grind.{flat_map-append}
use Rattle.std.proofs.lemmas.List.Sums.{fold-append}
use Rattle.nf_forms.specs.Laws.Boundary.{step-after, fold-after}
use Rattle.unicode_normalization.proofs.ComposeLemmas.{cases_Option}
use Rattle.nf_normalized.proofs.MarkLemmas.{last_or_more, inserted, same_front, mark_taken}

module _ (p : Properties) where
  -- a row that begins with a starter, or that of a mark which decomposes no further
  abbrev pub IsRow : ℕ → List ℕ → Type 0
  IsRow c row = BeginsInStarter p row ⊎ ((row ≡ c ∷ []) × (is_starter p c ≡ false))

  -- ---- a starter taken away

  module _ (row : ℕ → List ℕ) (some : (c : ℕ) → 1 ≤ length (row c)) (longer : (a b d : ℕ) → composite p a b ≡ Some d → length (row a) < length (row d)) where
    -- of how many members the decomposition is
    abbrev size : List ℕ → ℕ
    size x = length (flat_map row x)

    -- the first starter stays, or becomes one of a longer row
    first_of : (d : ℕ) (m v : List ℕ) → is_starter p d ≡ true → (t : ℕ) × (rest : List ℕ) × (fold (compose_step p) (d ∷ m) v ≡ t ∷ rest) × (length (row d) ≤ length (row t))
    first_of d m [] starts = (d, m, refl, omega arith)
    first_of d m (c ∷ v) starts =
        elim (cases_Bool (has_starter p m)) [
          | inl more ↦ rw (step-after p (d ∷ []) m c more).0 (first_of d (compose_step p m c) v starts)
          | inr none ↦ elim (cases_Option (joined p d m c)) [
            | inl stays ↦ rw (compose_step-at p [] d m c starts none, stays) (first_of d (m ++ c ∷ []) v starts)
            | inr made ↦
                let more = first_of made.0 m v (joined-starter p d m c made.0 made.1) in
                (more.0, more.1, rw (compose_step-at p [] d m c starts none, made.1) more.2, omega (arith, longer d c made.0 (joined-some p d m c made.0 made.1).1, more.3))
          ]
        ]

    -- z is y, where with a starter and more after it is composed to y and c
    starter_taken : (z y : List ℕ) (c s : ℕ) (v : List ℕ) → is_starter p s ≡ true → size z ≡ size y → fold (compose_step p) z (s ∷ v) ≡ y ++ c ∷ [] → z ≡ y
    starter_taken z y c s v starts same text = elim (cases_Bool (has_starter p z)) [
      | inl begun ↦
          let g = last_starter p z begun in
          next g.before g.starter g.marks (joined p g.starter g.marks s) g.text refl (cc (compose_step-at p g.before g.starter g.marks s g.starts g.no_starter))
      | inr none ↦ apart (compose_step-none p z s none)
    ]
      where
        -- after a front e that stays y ends, or goes on with d or what d became
        goes_on : (e : List ℕ) (d : ℕ) → is_starter p d ≡ true → compose_step p z s ≡ e ++ d ∷ []
            → (y ≡ e) ⊎ ((a : ℕ) × (more : List ℕ) × (y ≡ e ++ a ∷ more) × (length (row d) ≤ length (row a)))
        goes_on e d begins step =
            let first = first_of d [] v begins in
            elim (last_or_more e y c first.0 first.1 (cc (fold-after p e (d ∷ []) v (or_left _ _ begins)))) [ inl r ↦ inl r.0 | inr r ↦ inr (first.0, r.0, r.1, first.3) ]

        apart : compose_step p z s ≡ z ++ s ∷ [] → z ≡ y
        apart step = grind (arith, goes_on z s starts step, some, same, flat_map-append, length-append)

        next : (e : List ℕ) (t : ℕ) (m : List ℕ) (o : Option ℕ) → z ≡ e ++ t ∷ m → joined p t m s ≡ o → compose_step p z s ≡ e ++ replaced o t m s → z ≡ y
        next e t m None whole is step = apart (grind (arith, step, whole, append_assoc))
        next e t [] (Some d) whole is step =
            -- that would be longer than the starter that was there
            let above = longer t s d (joined-some p t [] s d is).1 in
            grind (arith, goes_on e d (joined-starter p t [] s d is) step, above, some t, same, whole, flat_map-append, length-append)
        next e t (x ∷ m) (Some d) whole is step = cc (joined-after_marks p t x m s starts)

    -- ---- the last character taken away

    -- where the form of a text and the row of c is y and c, the form of the text alone is y
    pub last_taken : (b : Bool) (w y : List ℕ) (c : ℕ) → IsRow c (row c) → size (arranged b p w) ≡ size y → arranged b p (w ++ row c) ≡ y ++ c ∷ [] → arranged b p w ≡ y
    last_taken false w y c (inl r) same text =
        let text = last_or_more (order p w) y c r.first (order p r.rest) (cc (order_after-at p [] w r.first r.rest r.starter)) in
        grind (arith, text, some, same, flat_map-append, length-append)
    last_taken true w y c (inl r) same text =
        starter_taken (compose p (order p w)) y c r.first (order p r.rest) r.starter same
        (grind (arith, fold-append (compose_step p) [] (order p w) (r.first ∷ order p r.rest), order_after-at p [] w r.first r.rest r.starter, r.text, text))
    last_taken false w y c (inr r) same text =
        let l = inserted p w c r.1 in same_front p c l.head l.tail y (order p w) l.above l.without (cc)
    last_taken true w y c (inr r) same text =
        let l = inserted p w c r.1 in
        let taken = mark_taken p (compose p l.head) l.tail y c r.1 l.marks l.above (grind (arith, fold-append (compose_step p) [] l.head (c ∷ l.tail), l.with_c, r.0, text)) in
        grind (arith, l.without, fold-append (compose_step p) [] l.head l.tail, taken)
