-- A starter more, in a form that composes: it meets what the text before it has become (The Unicode Standard, section 3.11,
-- D117), and composes with that, or ends it.
use Rattle.std.proofs.Common.{◌≡◌, ◌≢◌, ℕ, true, false, List, [], ◌∷◌, ◌++◌, Some, None, refl, sym, ap, ◌∙◌, fold, length}
use Rattle.std.proofs.lemmas.Bool.{or_left}
use Rattle.std.proofs.lemmas.List.Sums.{fold-append}
use Rattle.nf_boundary.proofs.Common.{Properties, is_starter, has_starter, arranged, composite, joined, replaced}
use Rattle.nf_forms.specs.Order.{by_class, order}
use Rattle.nf_forms.specs.Compose.{compose_step}
use Rattle.nf_forms.specs.Laws.Order.{order_after-at}
use Rattle.nf_forms.specs.Laws.Compose.{compose_step-at, composite-starter, joined-after_marks}
use Rattle.nf_forms.specs.Laws.Boundary.{fold-after}

module _ (p : Properties) where
  arranged-starter : (w : List ℕ) (c : ℕ) (v : List ℕ) → is_starter p c ≡ true → arranged true p (w ++ c ∷ v) ≡ fold (compose_step p) (compose_step p (arranged true p w) c) (order p v)
  unfolding by_class
  arranged-starter w c v starts = rw (order_after-at p [] w c v starts) (fold-append (compose_step p) [] (order p w) (c ∷ order p v))

  pub arranged-one : (c : ℕ) → is_starter p c ≡ true → arranged true p (c ∷ []) ≡ c ∷ []
  unfolding by_class
  arranged-one c starts = arranged-starter [] c [] starts

  module _ (w : List ℕ) (s : ℕ) (m : List ℕ) (here : arranged true p w ≡ s ∷ m) (starts_s : is_starter p s ≡ true) (marks : has_starter p m ≡ false) (c : ℕ) (starts : is_starter p c ≡ true) (v : List ℕ) where
    meets : arranged true p (w ++ c ∷ v) ≡ fold (compose_step p) (replaced (joined p s m c) s m c) (order p v)
    meets = arranged-starter w c v starts ∙ ap (λ z. fold (compose_step p) (compose_step p z c) (order p v)) here ∙ ap (λ z. fold (compose_step p) z (order p v)) (compose_step-at p [] s m c starts_s marks)

    -- it does not compose
    pub arranged-next : joined p s m c ≡ None → arranged true p (w ++ c ∷ v) ≡ (s ∷ m) ++ arranged true p (c ∷ v)
    unfolding by_class
    arranged-next none =
        meets ∙ ap (λ o. fold (compose_step p) (replaced o s m c) (order p v)) none
        ∙ fold-after p (s ∷ m) (c ∷ []) (order p v) (or_left _ _ starts)
        ∙ ap (λ z. (s ∷ m) ++ z) (sym (arranged-starter [] c v starts))

  -- it composes with a starter alone
  pub arranged-composed : (w : List ℕ) (s : ℕ) → arranged true p w ≡ s ∷ [] → is_starter p s ≡ true → (c : ℕ) → is_starter p c ≡ true → (x : ℕ) → composite p s c ≡ Some x
      → (v : List ℕ) → arranged true p (w ++ c ∷ v) ≡ arranged true p (x ∷ v)
  unfolding by_class
  arranged-composed w s here starts_s c starts x both v =
      meets w s [] here starts_s refl c starts v ∙ ap (λ o. fold (compose_step p) (replaced o s [] c) (order p v)) both
      ∙ sym (arranged-starter [] x v (composite-starter p s c x both))

  -- with what is more than one character it does not
  pub joined-none : (text : List ℕ) (c : ℕ) → is_starter p c ≡ true → length text ≢ 1 → (s : ℕ) (m : List ℕ) → text ≡ s ∷ m → joined p s m c ≡ None
  joined-none text c starts long s [] is = absurd (long (rw is refl))
  joined-none text c starts long s (x ∷ m) is = joined-after_marks p s x m c starts
