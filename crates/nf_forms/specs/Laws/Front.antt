-- A text in two at its last starter.
use Rattle.std.proofs.Common.{◌≡◌, ℕ, ◌+◌, Bool, true, false, ◌||◌, List, [], ◌∷◌, ◌++◌, refl, sym, ap, ◌∙◌, arith, add-zero, length, ◌⊎◌, inl, inr, ⊎_elim}
use Rattle.std.proofs.lemmas.Bool.{cases_Bool, or_left, or_right, or_parts, or_from, cond-true, cond-false, false≢true}
use Rattle.std.proofs.Math.Bool.{or-false}
use Rattle.std.proofs.lemmas.List.{append_assoc}
use Rattle.std.specs.Prelude.{if◌then◌else◌}
use Rattle.nf_forms.specs.Properties.{Properties, is_starter}
use Rattle.nf_forms.specs.Runs.{has_starter, trail}
use Rattle.nf_forms.specs.Front.{front, back}
use Rattle.nf_forms.specs.Laws.Runs.{has_starter-append, trail-append, trail-push}

module _ (p : Properties) where
  pub front-append-back : (w : List ℕ) → front p w ++ back p w ≡ w
  front-append-back [] = refl
  front-append-back (c ∷ w) = next (has_starter p w) _ _ (front-append-back w)
    where
      next : (b : Bool) (f k : List ℕ) → f ++ k ≡ w → (if b then c ∷ f else []) ++ (if b then k else c ∷ w) ≡ c ∷ w
      next true f k e = ap (λ v. c ∷ v) e
      next false f k e = refl

  pub front-none : (w : List ℕ) → has_starter p w ≡ false → front p w ≡ []
  front-none [] none = refl
  front-none (c ∷ w) none = cond-false _ _ _ ((or_parts (is_starter p c) (has_starter p w) none).1)

  pub back-none : (w : List ℕ) → has_starter p w ≡ false → back p w ≡ w
  back-none [] none = refl
  back-none (c ∷ w) none = cond-false _ _ _ ((or_parts (is_starter p c) (has_starter p w) none).1)

  pub has_starter-at : (e : List ℕ) (s : ℕ) (m : List ℕ) → is_starter p s ≡ true → has_starter p (e ++ s ∷ m) ≡ true
  has_starter-at [] s m starts = or_left _ _ starts
  has_starter-at (c ∷ e) s m starts = or_right _ _ (has_starter-at e s m starts)

  pub front-at : (e : List ℕ) (s : ℕ) (m : List ℕ) → is_starter p s ≡ true → has_starter p m ≡ false → front p (e ++ s ∷ m) ≡ e
  front-at [] s m starts marks = cond-false _ _ _ marks
  front-at (c ∷ e) s m starts marks = cond-true _ _ _ (has_starter-at e s m starts) ∙ ap (λ v. c ∷ v) (front-at e s m starts marks)

  pub back-at : (e : List ℕ) (s : ℕ) (m : List ℕ) → is_starter p s ≡ true → has_starter p m ≡ false → back p (e ++ s ∷ m) ≡ s ∷ m
  back-at [] s m starts marks = cond-false _ _ _ marks
  back-at (c ∷ e) s m starts marks = cond-true _ _ _ (has_starter-at e s m starts) ∙ back-at e s m starts marks

  -- a starter after settles all before it
  pub front-append_some : (w v : List ℕ) → has_starter p v ≡ true → front p (w ++ v) ≡ w ++ front p v
  front-append_some [] v some = refl
  front-append_some (c ∷ w) v some = cond-true _ _ _ (has_starter-append p w v ∙ or_right _ _ some) ∙ ap (λ u. c ∷ u) (front-append_some w v some)

  -- a text up to its last starter, that starter, and the marks after it
  pub record EndsInGroup (w : List ℕ) : Type 0 where
    pub before : List ℕ
    pub starter : ℕ
    pub marks : List ℕ
    pub text : w ≡ before ++ starter ∷ marks
    pub starts : is_starter p starter ≡ true
    pub no_starter : has_starter p marks ≡ false

  pub last_starter : (w : List ℕ) → has_starter p w ≡ true → EndsInGroup w
  last_starter [] some = absurd (false≢true some)
  last_starter (c ∷ w) some = ⊎_elim (λ more. after (last_starter w more)) (λ none. record { before = []; starter = c; marks = w; text = refl; starts = sym (ap (λ b. is_starter p c || b) none ∙ or-false (is_starter p c)) ∙ some; no_starter = none }) (cases_Bool (has_starter p w))
    where
      after : EndsInGroup w → EndsInGroup (c ∷ w)
      after r = record { before = c ∷ r.before; starter = r.starter; marks = r.marks; text = ap (λ v. c ∷ v) r.text; starts = r.starts; no_starter = r.no_starter }

  pub marks_push : (m : List ℕ) (c : ℕ) → has_starter p m ≡ false → is_starter p c ≡ false → has_starter p (m ++ c ∷ []) ≡ false
  marks_push m c marks mark = has_starter-append p m (c ∷ []) ∙ or_from _ _ marks (or_from _ _ mark refl)

  -- a text that ends in a starter
  pub record EndsInStarter (w : List ℕ) : Type 0 where
    pub before : List ℕ
    pub last : ℕ
    pub text : w ≡ before ++ last ∷ []
    pub starts : is_starter p last ≡ true

  last_of : (c : ℕ) (w : List ℕ) → (u : List ℕ) × (d : ℕ) × (c ∷ w ≡ u ++ d ∷ [])
  last_of c [] = ([], c, refl)
  last_of c (d ∷ w) = let rest = last_of d w in (c ∷ rest.0, rest.1, ap (λ v. c ∷ v) (rest.2))

  -- a text that ends in no mark is empty or ends in a starter
  pub ends_in : (w : List ℕ) → trail p w ≡ 0 → (w ≡ []) ⊎ EndsInStarter w
  ends_in [] none = inl refl
  ends_in (c ∷ w) none =
      let last = last_of c w in
      inr (record { before = last.0; last = last.1; text = last.2; starts = next (is_starter p (last.1)) _ (sym (trail-push p (last.0) (last.1)) ∙ ap (λ v. trail p v) (sym (last.2)) ∙ none) })
    where
      next : (b : Bool) (n : ℕ) → (if b then 0 else n + 1) ≡ 0 → b ≡ true
      next true n e = refl
      next false n e = let none : ⊥ = omega arith in absurd none

  -- each text is one that ends in no mark, and then marks
  pub record IsCut (w : List ℕ) : Type 0 where
    pub head : List ℕ
    pub run : List ℕ
    pub text : w ≡ head ++ run
    pub ends : trail p head ≡ 0
    pub marks : has_starter p run ≡ false

  pub cut : (w : List ℕ) → IsCut w
  cut w = ⊎_elim (λ some. at (last_starter w some)) (λ none. record { head = []; run = w; text = refl; ends = refl; marks = none }) (cases_Bool (has_starter p w))
    where
      at : EndsInGroup w → IsCut w
      at r = record {
        head = r.before ++ r.starter ∷ [];
        run = r.marks;
        text = r.text ∙ sym (append_assoc r.before (r.starter ∷ []) r.marks);
        ends = trail-push p r.before r.starter ∙ cond-true _ _ _ r.starts;
        marks = r.no_starter;
      }

  pub trail-after : (head run : List ℕ) → trail p head ≡ 0 → has_starter p run ≡ false → trail p (head ++ run) ≡ length run
  trail-after head run ends marks = trail-append p head run ∙ cond-false _ _ _ marks ∙ ap (λ n. length run + n) ends ∙ add-zero (length run)
