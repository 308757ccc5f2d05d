-- A mark more after a text, over any character data: where it stands in the form, and what the form was without it.
use Rattle.nf_normalized.proofs.Common.{◌⊎◌, ◌≡◌, nat_tests, list_all-append, ℕ, ◌<◌, Bool, true, false, not, ◌==◌, List, [], ◌∷◌, ◌++◌, length, refl, sym, ap, ◌∙◌, arith, inl, inr, append-nil, append_assoc, cases_Bool, or_parts, or_from, length-append, list_all, fold, Properties, is_starter, has_starter, by_class, order, is_blocked, joined, join, compose_step, last_starter, marks_push, cut, order-after, by_class-push, has_starter-by_class, compose_step-at, compose-after, fold-none, joined-some, joined-starter}
use Rattle.unicode_normalization.proofs.ComposeLemmas.{cases_Option}
use Rattle.nf_forms.specs.Laws.Runs.{has_starter-append}
use Rattle.nf_forms.specs.Laws.MarkAfter.{all_above, placed, is_ordered-by_class, lands}

-- ---- lists

-- where y with c after it goes on after e with a, a is c itself, at the end, or y goes on with it
pub last_or_more : (e y : List ℕ) (c a : ℕ) (v : List ℕ) → y ++ c ∷ [] ≡ e ++ a ∷ v → ((y ≡ e) × (c ≡ a) × (v ≡ [])) ⊎ ((more : List ℕ) × (y ≡ e ++ a ∷ more) × (v ≡ more ++ c ∷ []))
last_or_more [] [] c a v same = inl (refl, cc, cc)
last_or_more [] (d ∷ y) c a v same = inr (y, cc, cc)
last_or_more (b ∷ e) [] c a v same = absurd (grind (arith, ap length same, length-append))
last_or_more (b ∷ e) (d ∷ y) c a v same = elim (last_or_more e y c a v cc) [ inl r ↦ inl (cc, r.1, r.2) | inr r ↦ inr (r.0, cc, r.2) ]

module _ (p : Properties) where
  -- ---- a mark more

  -- a mark more after w stands before nothing but marks of greater classes
  pub record Inserted (w : List ℕ) (c : ℕ) : Type 0 where
    pub head : List ℕ
    pub tail : List ℕ
    pub without : order p w ≡ head ++ tail
    pub with_c : order p (w ++ c ∷ []) ≡ head ++ c ∷ tail
    pub marks : has_starter p tail ≡ false
    pub above : all_above p (p.class c) tail ≡ true

  pub inserted : (w : List ℕ) (c : ℕ) → is_starter p c ≡ false → Inserted w c
  inserted w c mark =
      let r = cut p w in
      let run = by_class p r.run in
      let marks = has_starter-by_class p r.run in
      let l = placed p c run marks (is_ordered-by_class p r.run r.marks) in
      record {
        head = order p r.head ++ l.head;
        tail = l.tail;
        without = grind (arith, r, order-after p r.head r.run, l.before, append_assoc);
        with_c = grind (arith, r.text, append_assoc, order-after p r.head (r.run ++ c ∷ []) r.ends, marks_push, by_class-push, mark, l.after);
        marks = grind (arith, has_starter-append p l.head l.tail, l.before, marks, or_parts);
        above = l.above;
      }

  -- two texts that differ by c alone, of which the longer one is y with c after it
  pub same_front : (c : ℕ) (e q y z : List ℕ) → all_above p (p.class c) q ≡ true → z ≡ e ++ q → y ++ c ∷ [] ≡ e ++ c ∷ q → z ≡ y
  same_front c e q y z above without with_c = grind (arith, nat_tests, list_all-append, append-nil, last_or_more e y c c q with_c)

  -- ---- a mark that composes is gone: nothing of its class is left after the starter

  abbrev avoids : ℕ → List ℕ → Bool
  avoids k v = list_all (λ x. not (p.class x == k)) v

  -- composites are starters
  avoiding : (k : ℕ) → 0 < k → (s : ℕ) (m v : List ℕ) → is_starter p s ≡ true → avoids k m ≡ true → all_above p k v ≡ true
      → (t : ℕ) × (rest : List ℕ) × (fold (join p) (s ∷ m) v ≡ t ∷ rest) × (avoids k (t ∷ rest) ≡ true)
  avoiding k some s m [] starts left above = (s, m, refl, grind (arith, nat_tests))
  avoiding k some s m (c ∷ v) starts left above =
      elim (cases_Option (joined p s m c)) [
        | inl none ↦ rw none (avoiding k some s (m ++ c ∷ []) v starts (grind (arith, nat_tests, list_all-append)) (grind arith))
        | inr made ↦ rw made.1 (avoiding k some made.0 m v (joined-starter p s m c made.0 made.1) left (grind arith))
      ]

  avoids-unblocked : (m : List ℕ) (c : ℕ) → is_blocked p m c ≡ false → avoids (p.class c) m ≡ true
  avoids-unblocked [] c free = refl
  avoids-unblocked (x ∷ m) c free = grind (arith, nat_tests, avoids-unblocked m c)

  -- ---- a mark taken away

  -- u and marks after it are composed to y, where with c before those marks they are composed to y and c
  pub mark_taken : (u tail y : List ℕ) (c : ℕ) → is_starter p c ≡ false → has_starter p tail ≡ false → all_above p (p.class c) tail ≡ true
      → fold (compose_step p) u (c ∷ tail) ≡ y ++ c ∷ [] → fold (compose_step p) u tail ≡ y
  mark_taken u tail y c mark marks above text = elim (cases_Bool (has_starter p u)) [
    | inr none ↦ same_front c u tail y _ above (fold-none p u tail none marks) (sym text ∙ fold-none p u (c ∷ tail) none (or_from _ _ mark marks))
    -- after a starter it composed, and could not be the last, or stayed, and stands after what there was without it
    | inl some ↦
        let g = last_starter p u some in
        let step = compose_step-at p g.before g.starter g.marks c g.starts g.no_starter in
        elim (cases_Option (joined p g.starter g.marks c)) [
          | inl none ↦
              let l = lands p true g.before g.marks c g.no_starter mark g.starter [] tail g.starts refl marks refl above in
              same_front c (g.before ++ l.starter ∷ g.marks) l.rest y _ l.above
              (grind (arith, g.text, append-nil, l.one, append_assoc)) (grind (arith, text, g.text, step, none, l.other, append_assoc))
          | inr made ↦
              let starts = joined-starter p g.starter g.marks c made.0 made.1 in
              let group = compose-after p g.before (made.0 ∷ g.marks) tail (record { starter = made.0; marks = g.marks; text = refl; starts = starts; no_starter = g.no_starter }) marks in
              let free = avoids-unblocked g.marks c (joined-some p g.starter g.marks c made.0 made.1).0 in
              let r = avoiding (p.class c) (grind (arith, nat_tests)) made.0 g.marks tail starts free above in
              absurd (grind (arith, nat_tests, list_all-append, last_or_more g.before y c r.0 r.1, text, g.text, step, made.1, group, r.2, r.3))
        ]
  ]
