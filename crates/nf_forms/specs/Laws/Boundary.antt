-- A text cut before an own boundary: its order, composition, form, stream-safe text and both together.
use Rattle.std.proofs.Common.{◌≡◌, ℕ, ◌≤◌, ◌+◌, Bool, true, false, nat_lt, List, [], ◌∷◌, ◌++◌, Option, Some, None, refl, sym, ap, subst, ◌∙◌, ⊎_elim, arith, append-nil, append_assoc, le-ltb}
use Rattle.std.proofs.lemmas.Bool.{cond_both, cases_Bool, cond-true, cond-false, or_left}
use Rattle.std.proofs.lemmas.List.Sums.{fold-append}
use Rattle.std.specs.Prelude.{fold, if◌then◌else◌}
use Rattle.nf_forms.specs.Properties.{Properties, is_starter}
use Rattle.nf_forms.specs.Runs.{has_starter, lead, trail}
use Rattle.nf_forms.specs.Front.{front}
use Rattle.nf_forms.specs.Order.{by_class, order}
use Rattle.nf_forms.specs.Compose.{composite, is_blocked, joined, replaced, compose_step, compose}
use Rattle.nf_forms.specs.declared.form.Form.{Form}
use Rattle.nf_forms.specs.declared.form.Form.TheVariants.{Nfkd}
use Rattle.nf_forms.specs.Forms.{row_of, decomposed, composes, arranged, finished, normal_form}
use Rattle.nf_forms.specs.StreamSafe.{joiner, max_run, is_too_long, safe_step, stream_safe}
use Rattle.nf_forms.specs.SafeForm.{safe_form}
use Rattle.nf_forms.specs.Boundary.{HasBoundaryBefore, ResetsCount, IsOwnBoundary}
use Rattle.nf_forms.specs.Laws.Runs.{has_starter-append, trail-append}
use Rattle.nf_forms.specs.Laws.Front.{has_starter-at, front-at, EndsInGroup, last_starter}
use Rattle.nf_forms.specs.Laws.Order.{order_after-at}
use Rattle.nf_forms.specs.Laws.Compose.{compose_step-at, compose_step-none, joined-starter}
use Rattle.nf_forms.specs.Laws.Sound.{IsSoundText}
use Rattle.nf_forms.specs.Laws.StreamSafe.{decomposed-append, trail-stream_safe-le}

module _ (p : Properties) where
  -- ---- decomposed text

  pub order-boundary : (w : List ℕ) (s : ℕ) (v : List ℕ) → is_starter p s ≡ true → order p (w ++ s ∷ v) ≡ order p w ++ order p (s ∷ v)
  unfolding by_class
  order-boundary w s v starts = order_after-at p [] w s v starts ∙ ap (λ k. order p w ++ k) (sym (order_after-at p [] [] s v starts))

  pub joined-none : (a : ℕ) (m : List ℕ) (s : ℕ) → composite p a s ≡ None → joined p a m s ≡ None
  joined-none a m s none = cond_both (is_blocked p m s) _ _ (λ o. o ≡ None) (λ blocked. refl) (λ free. none)

  pub step-never_second : (z : List ℕ) (s : ℕ) → ((a : ℕ) → composite p a s ≡ None) → compose_step p z s ≡ z ++ s ∷ []
  step-never_second z s never = ⊎_elim (λ some. at (last_starter p z some)) (compose_step-none p z s) (cases_Bool (has_starter p z))
    where
      at : EndsInGroup p z → compose_step p z s ≡ z ++ s ∷ []
      at r = subst (λ k. compose_step p k s ≡ k ++ s ∷ []) (sym r.text)
          (compose_step-at p r.before r.starter r.marks s r.starts r.no_starter
          ∙ ap (λ o. r.before ++ replaced o r.starter r.marks s) (joined-none r.starter r.marks s (never r.starter))
          ∙ sym (append_assoc r.before (r.starter ∷ r.marks) (s ∷ [])))

  -- a step reads no more than what stands from the last starter on
  pub step-after : (z u : List ℕ) (c : ℕ) → has_starter p u ≡ true → (compose_step p (z ++ u) c ≡ z ++ compose_step p u c) × (has_starter p (compose_step p u c) ≡ true)
  step-after z u c some = at (last_starter p u some)
    where
      kept : (b : List ℕ) (s : ℕ) (m : List ℕ) (o : Option ℕ) → is_starter p s ≡ true → joined p s m c ≡ o → has_starter p (b ++ replaced o s m c) ≡ true
      kept b s m None starts e = has_starter-at p b s (m ++ c ∷ []) starts
      kept b s m (Some d) starts e = has_starter-at p b d m (joined-starter p s m c d e)

      at : EndsInGroup p u → (compose_step p (z ++ u) c ≡ z ++ compose_step p u c) × (has_starter p (compose_step p u c) ≡ true)
      at r =
          subst (λ k. (compose_step p (z ++ k) c ≡ z ++ compose_step p k c) × (has_starter p (compose_step p k c) ≡ true)) (sym r.text) (
            ap (λ k. compose_step p k c) (sym (append_assoc z r.before (r.starter ∷ r.marks)))
                ∙ compose_step-at p (z ++ r.before) r.starter r.marks c r.starts r.no_starter
                ∙ append_assoc z r.before _
                ∙ ap (λ k. z ++ k) (sym (compose_step-at p r.before r.starter r.marks c r.starts r.no_starter)),
            ap (has_starter p) (compose_step-at p r.before r.starter r.marks c r.starts r.no_starter)
                ∙ kept r.before r.starter r.marks (joined p r.starter r.marks c) r.starts refl,
          )

  -- after a starter composition goes on alone
  pub fold-after : (z u v : List ℕ) → has_starter p u ≡ true → fold (compose_step p) (z ++ u) v ≡ z ++ fold (compose_step p) u v
  fold-after z u [] some = refl
  fold-after z u (c ∷ v) some =
      let step = step-after z u c some in
      ap (λ k. fold (compose_step p) k v) step.0 ∙ fold-after z (compose_step p u c) v step.1

  -- a starter stays one, or becomes another
  fold-some : (u v : List ℕ) → has_starter p u ≡ true → has_starter p (fold (compose_step p) u v) ≡ true
  fold-some u [] some = some
  fold-some u (c ∷ v) some = fold-some (compose_step p u c) v (step-after [] u c some).1

  pub compose-boundary : (w : List ℕ) (s : ℕ) (v : List ℕ) → is_starter p s ≡ true → ((a : ℕ) → composite p a s ≡ None) → compose p (w ++ s ∷ v) ≡ compose p w ++ compose p (s ∷ v)
  compose-boundary w s v starts never =
      fold-append (compose_step p) [] w (s ∷ v)
      ∙ ap (λ k. fold (compose_step p) k v) (step-never_second (compose p w) s never)
      ∙ fold-after (compose p w) (s ∷ []) v (or_left _ _ starts)

  -- the first starter stays where it is
  order-first : (s : ℕ) (v : List ℕ) → is_starter p s ≡ true → (rest : List ℕ) × (order p (s ∷ v) ≡ s ∷ rest)
  unfolding by_class
  order-first s v starts = (order p v, cond-true _ _ _ starts)

  pub arranged-boundary : (b : Bool) (w : List ℕ) (s : ℕ) (v : List ℕ) → is_starter p s ≡ true → (b ≡ true → (a : ℕ) → composite p a s ≡ None) → arranged b p (w ++ s ∷ v) ≡ arranged b p w ++ arranged b p (s ∷ v)
  arranged-boundary false w s v starts never = order-boundary w s v starts
  arranged-boundary true w s v starts never =
      let alone = order-first s v starts in
      ap (compose p) (order-boundary w s v starts ∙ ap (λ k. order p w ++ k) alone.1)
      ∙ compose-boundary (order p w) s alone.0 starts (never refl)
      ∙ ap (λ k. compose p (order p w) ++ compose p k) (sym alone.1)

  pub has_starter-arranged : (b : Bool) (s : ℕ) (v : List ℕ) → is_starter p s ≡ true → has_starter p (arranged b p (s ∷ v)) ≡ true
  has_starter-arranged false s v starts = ap (has_starter p) (order-first s v starts).1 ∙ or_left _ _ starts
  has_starter-arranged true s v starts =
      let alone = order-first s v starts in
      ap (λ k. has_starter p (compose p k)) alone.1 ∙ fold-some (s ∷ []) alone.0 (or_left _ _ starts)

  pub finished-boundary : (f : Form) (c : ℕ) → HasBoundaryBefore p f c → (w v : List ℕ) → finished f p (w ++ (row_of f p c ++ v)) ≡ finished f p w ++ finished f p (row_of f p c ++ v)
  finished-boundary f c r w v =
      ap (λ row. finished f p (w ++ (row ++ v))) r.row
      ∙ arranged-boundary (composes f) w r.first (r.rest ++ v) r.starter r.never_second
      ∙ ap (λ row. finished f p w ++ finished f p (row ++ v)) (sym r.row)

  pub normal_form-boundary : (f : Form) (c : ℕ) → HasBoundaryBefore p f c → (x y : List ℕ) → normal_form f p (x ++ c ∷ y) ≡ normal_form f p x ++ normal_form f p (c ∷ y)
  normal_form-boundary f c r x y =
      ap (finished f p) (decomposed-append p f x (c ∷ y)) ∙ finished-boundary f c r (decomposed f p x) (decomposed f p y)

  -- ---- the stream-safe text

  -- how many non-starters the NFKD of an output ends in
  abbrev pub last_run : List ℕ → ℕ
  last_run out = trail p (decomposed Nfkd p out)

  pub run-after : (o z : List ℕ) → has_starter p (decomposed Nfkd p z) ≡ true → last_run (o ++ z) ≡ last_run z
  run-after o z some = ap (trail p) (decomposed-append p Nfkd o z) ∙ trail-append p (decomposed Nfkd p o) (decomposed Nfkd p z) ∙ cond-true _ _ _ some

  -- where the count reads no more than z, neither does a step
  pub safe_step-after : (o z : List ℕ) (c : ℕ) → last_run (o ++ z) ≡ last_run z → safe_step p (o ++ z) c ≡ o ++ safe_step p z c
  safe_step-after o z c same =
      ap (λ b. (if b then (o ++ z) ++ joiner ∷ [] else o ++ z) ++ c ∷ []) (ap (λ n. nat_lt max_run (n + lead p (p.compat c))) same)
      ∙ next (is_too_long p z c)
    where
      next : (b : Bool) → (if b then (o ++ z) ++ joiner ∷ [] else o ++ z) ++ c ∷ [] ≡ o ++ ((if b then z ++ joiner ∷ [] else z) ++ c ∷ [])
      next true = ap (λ k. k ++ c ∷ []) (append_assoc o z (joiner ∷ [])) ∙ append_assoc o (z ++ joiner ∷ []) (c ∷ [])
      next false = append_assoc o z (c ∷ [])

  some-more : (z v : List ℕ) → has_starter p (decomposed Nfkd p z) ≡ true → has_starter p (decomposed Nfkd p (z ++ v)) ≡ true
  some-more z v some = ap (has_starter p) (decomposed-append p Nfkd z v) ∙ has_starter-append p (decomposed Nfkd p z) (decomposed Nfkd p v) ∙ or_left _ _ some

  some-step : (z : List ℕ) (c : ℕ) → has_starter p (decomposed Nfkd p z) ≡ true → has_starter p (decomposed Nfkd p (safe_step p z c)) ≡ true
  some-step z c some = some-more _ (c ∷ []) (next (is_too_long p z c))
    where
      next : (b : Bool) → has_starter p (decomposed Nfkd p (if b then z ++ joiner ∷ [] else z)) ≡ true
      next true = some-more z (joiner ∷ []) some
      next false = some

  safe-after : (o z y : List ℕ) → has_starter p (decomposed Nfkd p z) ≡ true → fold (safe_step p) (o ++ z) y ≡ o ++ fold (safe_step p) z y
  safe-after o z [] some = refl
  safe-after o z (c ∷ y) some =
      ap (λ k. fold (safe_step p) k y) (safe_step-after o z c (run-after o z some)) ∙ safe-after o (safe_step p z c) y (some-step z c some)

  -- where there is room for c, nothing is put before it
  pub safe_step-room : (o : List ℕ) (c : ℕ) → last_run o + lead p (p.compat c) ≤ max_run → safe_step p o c ≡ o ++ c ∷ []
  safe_step-room o c room = ap (λ k. k ++ c ∷ []) (cond-false _ _ _ (le-ltb max_run (last_run o + lead p (p.compat c)) room))

  step-reset : (o : List ℕ) (c : ℕ) → ResetsCount p c → last_run o ≤ max_run → safe_step p o c ≡ o ++ c ∷ []
  step-reset o c h room = let begins = h.lead in safe_step-room o c (omega arith)

  pub stream_safe-boundary : (c : ℕ) → ResetsCount p c → (x y : List ℕ) → last_run (stream_safe p x) ≤ max_run → stream_safe p (x ++ c ∷ y) ≡ stream_safe p x ++ stream_safe p (c ∷ y)
  stream_safe-boundary c h x y room =
      let out = stream_safe p x in
      let some : has_starter p (p.compat c ++ []) ≡ true = ap (has_starter p) (append-nil (p.compat c)) ∙ h.some in
      fold-append (safe_step p) [] x (c ∷ y)
      ∙ ap (λ k. fold (safe_step p) k y) (step-reset out c h room)
      ∙ safe-after out (c ∷ []) y some
      ∙ ap (λ k. out ++ fold (safe_step p) k y) (sym (step-reset [] c h (omega arith)))

  -- ---- both: the form of the stream-safe text

  -- what stands stays
  keeps : (o y : List ℕ) → (rest : List ℕ) × (fold (safe_step p) o y ≡ o ++ rest)
  keeps o [] = ([], sym (append-nil o))
  keeps o (d ∷ y) =
      let here = step o d (is_too_long p o d) in
      let rest = keeps (o ++ here.0) y in
      (here.0 ++ rest.0, ap (λ k. fold (safe_step p) k y) here.1 ∙ rest.1 ∙ append_assoc o here.0 rest.0)
    where
      step : (o : List ℕ) (d : ℕ) (b : Bool) → (more : List ℕ) × ((if b then o ++ joiner ∷ [] else o) ++ d ∷ [] ≡ o ++ more)
      step o d true = (joiner ∷ d ∷ [], append_assoc o (joiner ∷ []) (d ∷ []))
      step o d false = (d ∷ [], refl)

  safe_from : (c : ℕ) (y : List ℕ) → ResetsCount p c → (rest : List ℕ) × (stream_safe p (c ∷ y) ≡ c ∷ rest)
  safe_from c y h =
      let rest = keeps (c ∷ []) y in
      (rest.0, ap (λ k. fold (safe_step p) k y) (step-reset [] c h (omega arith)) ∙ rest.1)

  -- the text may be cut before it, and each part filtered alone
  pub safe_form-boundary : (f : Form) (c : ℕ) → IsOwnBoundary p f c → (x y : List ℕ) → IsSoundText p (stream_safe p x) → safe_form f p (x ++ c ∷ y) ≡ safe_form f p x ++ safe_form f p (c ∷ y)
  unfolding safe_form
  safe_form-boundary f c h x y sound =
      let from = safe_from c y h.counts in
      ap (normal_form f p)
      (stream_safe-boundary c h.counts x y (trail-stream_safe-le p Nfkd x sound) ∙ ap (λ k. stream_safe p x ++ k) from.1)
      ∙ normal_form-boundary f c h.boundary_before (stream_safe p x) from.0
      ∙ ap (λ k. safe_form f p x ++ normal_form f p k) (sym from.1)

  pub safe_form-alone : (f : Form) (c : ℕ) → IsOwnBoundary p f c → safe_form f p (c ∷ []) ≡ c ∷ []
  unfolding safe_form
  safe_form-alone f c h = ap (normal_form f p) (step-reset [] c h.counts (omega arith)) ∙ h.alone

  pub safe_form-push : (f : Form) (c : ℕ) → IsOwnBoundary p f c → (x : List ℕ) → IsSoundText p (stream_safe p x) → safe_form f p (x ++ c ∷ []) ≡ safe_form f p x ++ c ∷ []
  safe_form-push f c h x sound = safe_form-boundary f c h x [] sound ∙ ap (λ k. safe_form f p x ++ k) (safe_form-alone f c h)

  -- it settles all that stands before it
  pub front-push : (f : Form) (c : ℕ) → IsOwnBoundary p f c → (x : List ℕ) → IsSoundText p (stream_safe p x) → front p (safe_form f p (x ++ c ∷ [])) ≡ safe_form f p x
  front-push f c h x sound = ap (front p) (safe_form-push f c h x sound) ∙ front-at p (safe_form f p x) c [] h.starts refl
