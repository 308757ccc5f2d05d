-- Composition of one character more.
use Rattle.std.proofs.Common.{◌≡◌, ℕ, Bool, true, false, List, [], ◌∷◌, ◌++◌, Option, Some, None, refl, sym, ap, ◌∙◌, subst, arith, append_assoc}
use Rattle.std.proofs.lemmas.Bool.{or_parts, or_left, cond-true, cond-false, eqb-true, le-leb}
use Rattle.std.proofs.lemmas.List.{append-nil}
use Rattle.std.proofs.lemmas.List.Sums.{fold-append}
use Rattle.std.specs.Prelude.{if◌then◌else◌, fold}
use Rattle.nf_forms.specs.Properties.{Properties, is_starter}
use Rattle.nf_forms.specs.Runs.{has_starter}
use Rattle.nf_forms.specs.Front.{front, back}
use Rattle.nf_forms.specs.Compose.{starter_only, composite, is_blocked, joined, replaced, join, compose_step, compose}
use Rattle.nf_forms.specs.Laws.Front.{has_starter-at, front-at, back-at, marks_push}

module _ (p : Properties) where
  pub compose-push : (w : List ℕ) (c : ℕ) → compose p (w ++ c ∷ []) ≡ compose_step p (compose p w) c
  compose-push w c = fold-append (compose_step p) [] w (c ∷ [])

  pub compose_step-none : (z : List ℕ) (c : ℕ) → has_starter p z ≡ false → compose_step p z c ≡ z ++ c ∷ []
  compose_step-none z c none = cond-false _ _ _ none

  -- a character meets the last starter and its marks alone
  pub compose_step-at : (e : List ℕ) (s : ℕ) (m : List ℕ) (c : ℕ) → is_starter p s ≡ true → has_starter p m ≡ false → compose_step p (e ++ s ∷ m) c ≡ e ++ join p (s ∷ m) c
  compose_step-at e s m c starts marks =
      cond-true _ _ _ (has_starter-at p e s m starts)
      ∙ ap (λ v. v ++ join p (back p (e ++ s ∷ m)) c) (front-at p e s m starts marks)
      ∙ ap (λ v. e ++ join p v c) (back-at p e s m starts marks)

  -- before the first starter nothing composes
  pub fold-none : (z w : List ℕ) → has_starter p z ≡ false → has_starter p w ≡ false → fold (compose_step p) z w ≡ z ++ w
  fold-none z [] none marks = sym (append-nil z)
  fold-none z (c ∷ w) none marks =
      let parts = or_parts (is_starter p c) (has_starter p w) marks in
      ap (λ v. fold (compose_step p) v w) (compose_step-none z c none)
      ∙ fold-none (z ++ c ∷ []) w (marks_push p z c none (parts.0)) (parts.1)
      ∙ append_assoc z (c ∷ []) w

  pub compose-none : (w : List ℕ) → has_starter p w ≡ false → compose p w ≡ w
  compose-none w marks = fold-none [] w refl marks

  starter_only-starter : (o : Option ℕ) (d : ℕ) → starter_only p o ≡ Some d → is_starter p d ≡ true
  starter_only-starter None d e = cc
  starter_only-starter (Some c) d e = next (is_starter p c) refl e
    where
      next : (b : Bool) → is_starter p c ≡ b → (if b then Some c else None) ≡ Some d → is_starter p d ≡ true
      next true starts e = let same : c ≡ d = cc in subst (λ k. is_starter p k ≡ true) same starts
      next false starts e = cc

  -- a primary composite is a starter
  pub composite-starter : (a b d : ℕ) → composite p a b ≡ Some d → is_starter p d ≡ true
  composite-starter a b d e = starter_only-starter (p.pair a b) d e

  -- what composes is not blocked, and is a composite
  pub joined-some : (s : ℕ) (m : List ℕ) (c d : ℕ) → joined p s m c ≡ Some d → (is_blocked p m c ≡ false) × (composite p s c ≡ Some d)
  joined-some s m c d e = next (is_blocked p m c) refl e
    where
      next : (b : Bool) → is_blocked p m c ≡ b → (if b then None else composite p s c) ≡ Some d → (is_blocked p m c ≡ false) × (composite p s c ≡ Some d)
      next true is e = cc
      next false is e = (is, e)

  pub joined-starter : (s : ℕ) (m : List ℕ) (c d : ℕ) → joined p s m c ≡ Some d → is_starter p d ≡ true
  joined-starter s m c d e = composite-starter s c d (joined-some s m c d e).1

  -- a starter does not compose across what is left after the one before it
  pub joined-after_marks : (s x : ℕ) (m : List ℕ) (c : ℕ) → is_starter p c ≡ true → joined p s (x ∷ m) c ≡ None
  joined-after_marks s x m c starts = cond-true _ _ _ (or_left _ _ (le-leb (p.class c) (p.class x) (let none = eqb-true (p.class c) 0 starts in omega arith)))

  -- a starter and the marks after it
  pub record IsGroup (z : List ℕ) : Type 0 where
    pub starter : ℕ
    pub marks : List ℕ
    pub text : z ≡ starter ∷ marks
    pub starts : is_starter p starter ≡ true
    pub no_starter : has_starter p marks ≡ false

  pub join-group : (s : ℕ) (m : List ℕ) (c : ℕ) → is_starter p s ≡ true → has_starter p m ≡ false → is_starter p c ≡ false → IsGroup (join p (s ∷ m) c)
  join-group s m c starts marks mark = next (joined p s m c) refl
    where
      next : (o : Option ℕ) → joined p s m c ≡ o → IsGroup (replaced o s m c)
      next None e = record { starter = s; marks = m ++ c ∷ []; text = refl; starts = starts; no_starter = marks_push p m c marks mark }
      next (Some d) e = record { starter = d; marks = m; text = refl; starts = joined-starter s m c d e; no_starter = marks }

  pub fold-group : (z v : List ℕ) → IsGroup z → has_starter p v ≡ false → IsGroup (fold (join p) z v)
  fold-group z [] group marks = group
  fold-group z (c ∷ v) group marks =
      let parts = or_parts (is_starter p c) (has_starter p v) marks in
      fold-group (join p z c) v (subst (λ k. IsGroup (join p k c)) (sym group.text) (join-group group.starter group.marks c group.starts group.no_starter (parts.0))) (parts.1)

  -- after a starter marks meet that starter and its marks alone
  pub compose-after : (e z v : List ℕ) → IsGroup z → has_starter p v ≡ false → fold (compose_step p) (e ++ z) v ≡ e ++ fold (join p) z v
  compose-after e z [] group marks = refl
  compose-after e z (c ∷ v) group marks =
      let parts = or_parts (is_starter p c) (has_starter p v) marks in
      let same = sym group.text in
      let here : compose_step p (e ++ z) c ≡ e ++ join p z c = subst (λ k. compose_step p (e ++ k) c ≡ e ++ join p k c) same (compose_step-at e group.starter group.marks c group.starts group.no_starter) in
      ap (λ k. fold (compose_step p) k v) here
      ∙ compose-after e (join p z c) v (subst (λ k. IsGroup (join p k c)) same (join-group group.starter group.marks c group.starts group.no_starter (parts.0))) (parts.1)

  pub front-group : (e z : List ℕ) → IsGroup z → front p (e ++ z) ≡ e
  front-group e z group = subst (λ k. front p (e ++ k) ≡ e) (sym group.text) (front-at p e group.starter group.marks group.starts group.no_starter)

  pub back-group : (e z : List ℕ) → IsGroup z → back p (e ++ z) ≡ z
  back-group e z group = subst (λ k. back p (e ++ k) ≡ k) (sym group.text) (back-at p e group.starter group.marks group.starts group.no_starter)
