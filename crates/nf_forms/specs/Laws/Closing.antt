-- A text cut after a character that closes it: its order, composition, form, stream-safe text and both together.
use Rattle.std.proofs.Common.{◌≡◌, ℕ, Bool, true, false, List, [], ◌∷◌, ◌++◌, None, refl, sym, ap, ◌∙◌, ⊎_elim, arith, append-nil, append_assoc}
use Rattle.std.proofs.lemmas.Bool.{cond_both, cases_Bool, cond-true}
use Rattle.std.proofs.lemmas.List.Sums.{fold-append}
use Rattle.std.specs.Prelude.{fold}
use Rattle.nf_forms.specs.Properties.{Properties, is_starter}
use Rattle.nf_forms.specs.Runs.{has_starter, trail}
use Rattle.nf_forms.specs.Order.{order}
use Rattle.nf_forms.specs.Compose.{composite, replaced, compose_step, compose}
use Rattle.nf_forms.specs.declared.form.Form.{Form}
use Rattle.nf_forms.specs.declared.form.Form.TheVariants.{Nfkd}
use Rattle.nf_forms.specs.Forms.{decomposed, composes, arranged, finished, normal_form}
use Rattle.nf_forms.specs.StreamSafe.{with_room, safe_step, stream_safe}
use Rattle.nf_forms.specs.SafeForm.{safe_form}
use Rattle.nf_forms.specs.Closing.{IsClosing}
use Rattle.nf_forms.specs.Laws.Runs.{trail-append, trail-marks, trail-push}
use Rattle.nf_forms.specs.Laws.Order.{order_after-at, order-push_starter}
use Rattle.nf_forms.specs.Laws.Compose.{compose_step-at, compose_step-none}
use Rattle.nf_forms.specs.Laws.StreamSafe.{stream_safe-push, decomposed-append, decomposed-push}
use Rattle.nf_forms.specs.Laws.Boundary.{last_run, joined-none, step-never_second, step-after, safe_step-after}

module _ (p : Properties) where
  -- ---- decomposed text

  module _ (c : ℕ) (starts : is_starter p c ≡ true) (never : (b : ℕ) → composite p c b ≡ None) where
    -- after c a step reads nothing before what stands there
    step-segments : (e u : List ℕ) (d : ℕ) → compose_step p ((e ++ c ∷ []) ++ u) d ≡ (e ++ c ∷ []) ++ compose_step p u d
    step-segments e u d = ⊎_elim (λ some. (step-after p (e ++ c ∷ []) u d some).0) none (cases_Bool (has_starter p u))
      where
        none : has_starter p u ≡ false → compose_step p ((e ++ c ∷ []) ++ u) d ≡ (e ++ c ∷ []) ++ compose_step p u d
        none marks =
            ap (λ z. compose_step p z d) (append_assoc e (c ∷ []) u)
            ∙ compose_step-at p e c u d starts marks
            ∙ ap (λ o. e ++ replaced o c u d) (joined-none p c u d (never d))
            ∙ sym (append_assoc e (c ∷ []) (u ++ d ∷ []))
            ∙ ap (λ z. (e ++ c ∷ []) ++ z) (sym (compose_step-none p u d marks))

    fold-segments : (e u v : List ℕ) → fold (compose_step p) ((e ++ c ∷ []) ++ u) v ≡ (e ++ c ∷ []) ++ fold (compose_step p) u v
    fold-segments e u [] = refl
    fold-segments e u (d ∷ v) = ap (λ z. fold (compose_step p) z v) (step-segments e u d) ∙ fold-segments e (compose_step p u d) v

  compose-segments : (w : List ℕ) (c : ℕ) (v : List ℕ) → is_starter p c ≡ true → ((a : ℕ) → composite p a c ≡ None) → ((b : ℕ) → composite p c b ≡ None)
      → compose p (w ++ c ∷ v) ≡ compose p (w ++ c ∷ []) ++ compose p v
  compose-segments w c v starts second first =
      let one = step-never_second p (compose p w) c second in
      fold-append (compose_step p) [] w (c ∷ v)
      ∙ ap (λ z. fold (compose_step p) z v) (one ∙ sym (append-nil (compose p w ++ c ∷ [])))
      ∙ fold-segments c starts first (compose p w) [] v
      ∙ ap (λ z. z ++ compose p v) (sym (fold-append (compose_step p) [] w (c ∷ []) ∙ one))

  arranged-segments : (b : Bool) (w : List ℕ) (c : ℕ) (v : List ℕ) → is_starter p c ≡ true → (b ≡ true → (a : ℕ) → composite p a c ≡ None) → (b ≡ true → (a : ℕ) → composite p c a ≡ None)
      → arranged b p (w ++ c ∷ v) ≡ arranged b p (w ++ c ∷ []) ++ arranged b p v
  arranged-segments false w c v starts second first =
      order_after-at p [] w c v starts ∙ sym (append_assoc (order p w) (c ∷ []) (order p v)) ∙ ap (λ z. z ++ order p v) (sym (order-push_starter p w c starts))
  arranged-segments true w c v starts second first =
      ap (compose p) (order_after-at p [] w c v starts)
      ∙ compose-segments (order p w) c (order p v) starts (second refl) (first refl)
      ∙ ap (λ z. compose p z ++ compose p (order p v)) (sym (order-push_starter p w c starts))

  normal_form-segments : (f : Form) (c : ℕ) → IsClosing p f c → (x y : List ℕ) → normal_form f p ((x ++ c ∷ []) ++ y) ≡ normal_form f p (x ++ c ∷ []) ++ normal_form f p y
  normal_form-segments f c h x y =
      let own : decomposed f p (x ++ c ∷ []) ≡ decomposed f p x ++ c ∷ [] = decomposed-push p f x c ∙ ap (λ row. decomposed f p x ++ row) h.row in
      ap (finished f p) (decomposed-append p f (x ++ c ∷ []) y ∙ ap (λ w. w ++ decomposed f p y) own ∙ append_assoc (decomposed f p x) (c ∷ []) (decomposed f p y))
      ∙ arranged-segments (composes f) (decomposed f p x) c (decomposed f p y) h.starts h.never_second h.never_first
      ∙ ap (λ w. finished f p w ++ normal_form f p y) (sym own)

  -- ---- the stream-safe text

  -- after an output that ends in no mark the count is that of what stands there
  run-segments : (o z : List ℕ) → last_run p o ≡ 0 → last_run p (o ++ z) ≡ last_run p z
  run-segments o z ends =
      ap (trail p) (decomposed-append p Nfkd o z) ∙ trail-append p (decomposed Nfkd p o) (decomposed Nfkd p z)
      ∙ cond_both (has_starter p (decomposed Nfkd p z)) _ _ (λ n. n ≡ last_run p z) (λ some. refl) (λ none. omega (arith, ends, trail-marks p (decomposed Nfkd p z) none))

  pub safe-segments : (o z y : List ℕ) → last_run p o ≡ 0 → fold (safe_step p) (o ++ z) y ≡ o ++ fold (safe_step p) z y
  safe-segments o z [] ends = refl
  safe-segments o z (d ∷ y) ends = ap (λ k. fold (safe_step p) k y) (safe_step-after p o z d (run-segments o z ends)) ∙ safe-segments o (safe_step p z d) y ends

  module _ (f : Form) (c : ℕ) (h : IsClosing p f c) (x y : List ℕ) where
    pub stream_safe-segments : stream_safe p ((x ++ c ∷ []) ++ y) ≡ stream_safe p (x ++ c ∷ []) ++ stream_safe p y
    stream_safe-segments =
        let out = stream_safe p (x ++ c ∷ []) in
        let before = with_room p (stream_safe p x) c in
        let ends : last_run p out ≡ 0 =
        ap (last_run p) (stream_safe-push p x c)
        ∙ ap (trail p) (decomposed-push p Nfkd before c ∙ ap (λ row. decomposed Nfkd p before ++ row) h.compat)
        ∙ trail-push p (decomposed Nfkd p before) c ∙ cond-true _ _ _ h.starts in
        fold-append (safe_step p) [] (x ++ c ∷ []) y
        ∙ ap (λ o. fold (safe_step p) o y) (sym (append-nil out))
        ∙ safe-segments out [] y ends

    -- the text may be cut after it, and each part filtered alone
    pub safe_form-segments : safe_form f p ((x ++ c ∷ []) ++ y) ≡ safe_form f p (x ++ c ∷ []) ++ safe_form f p y
    unfolding safe_form
    safe_form-segments =
        let before = with_room p (stream_safe p x) c in
        let whole = stream_safe-push p x c in
        ap (normal_form f p) (stream_safe-segments ∙ ap (λ o. o ++ stream_safe p y) whole)
        ∙ normal_form-segments f c h before (stream_safe p y)
        ∙ ap (λ o. normal_form f p o ++ normal_form f p (stream_safe p y)) (sym whole)
