-- Text in NFD or NFKD over audited data: its NFKD is that of its source, so it is stream-safe where its source is, and it
-- is its own form.
use Rattle.std.proofs.Common.{◌≡◌, ℕ, ◌≤◌, ◌+◌, Bool, true, false, not, ◌||◌, ◌&&◌, ◌==◌, cond, List, [], ◌∷◌, ◌++◌, flat_map, refl, sym, ap, ap₂, ◌∙◌, ⊎_elim, arith}
use Rattle.std.proofs.lemmas.Bool.{cases_Bool, cond-true, and_from, and_parts, or_left, or_right, eq-eqb}
use Rattle.std.proofs.lemmas.Grind.{flat_map-append}
use Rattle.std.proofs.lemmas.List.Elements.{filter-append}
use Rattle.std.proofs.lemmas.List.Folds.{list_all-append}
use Rattle.std.proofs.lemmas.List.Sums.{list_all-from_AllPass}
use Rattle.std.proofs.lemmas.Slice.Eq.{bytes_eq-Decides}
use Rattle.std.specs.List.{list_all}
use lib.Utf8.{scalar}
use Rattle.std.specs.Prelude.{IsTrue, slice_index_or}
use Rattle.std.specs.Str.{all_scalars, bytes_eq}
use Rattle.std.specs.Char.{IsScalar}
use Rattle.nf_forms.specs.Properties.{Properties, is_starter, is_nonstarter}
use Rattle.nf_forms.specs.Runs.{lead, trail, longest}
use Rattle.nf_forms.specs.Order.{order}
use Rattle.nf_forms.specs.Ordering.{with_class}
use Rattle.nf_forms.specs.declared.form.Form.{Form}
use Rattle.nf_forms.specs.declared.form.Form.TheVariants.{Nfc, Nfd, Nfkc, Nfkd}
use Rattle.nf_forms.specs.Forms.{row_of, decomposed, composes, arranged, finished, normal_form}
use Rattle.nf_forms.specs.StreamSafe.{joiner, max_run, safe_step, stream_safe}
use Rattle.nf_forms.specs.SafeForm.{safe_form}
use Rattle.nf_forms.specs.Sound.{is_sound}
use Rattle.nf_forms.specs.Audit.{IsFull, IsFullText, HasOwnMarks, IsAudited}
use Rattle.nf_forms.specs.Twice.{ChangesOnce}
use Rattle.nf_forms.specs.Laws.Last.{by_last}
use Rattle.nf_forms.specs.Laws.Starters.{longest-order}
use Rattle.nf_forms.specs.Laws.Ordering.{ordering, order-only, order-order}
use Rattle.nf_forms.specs.Laws.Sound.{IsSoundText}
pub use Rattle.nf_forms.specs.Laws.StreamSafe.{list_all-stream_safe}
use Rattle.nf_forms.specs.Laws.StreamSafe.{of_rows, stream_safe-push, longest-decomposed-push, longest-stream_safe-le}
use Rattle.nf_forms.specs.Laws.Boundary.{safe_step-room}

pub scalars-all : (x : List ℕ) → all_scalars x ≡ list_all scalar x
scalars-all [] = refl
scalars-all (c ∷ x) = ap (λ b. scalar c && b) (scalars-all x)

module _ (p : Properties) where
  -- ---- order looks at the starters and at each class alone

  pub order-same : (w v : List ℕ) → ((k : ℕ) → with_class p k w ≡ with_class p k v) → order p w ≡ order p v
  order-same w v same =
      let first = ordering p w in
      let second = ordering p v in
      order-only p (order p w) (order p v) first.ordered second.ordered (λ k. first.stable k ∙ same k ∙ sym (second.stable k))

  pub with_class-same_order : (w v : List ℕ) → order p w ≡ order p v → (k : ℕ) → with_class p k w ≡ with_class p k v
  with_class-same_order w v same k = sym ((ordering p w).stable k) ∙ ap (with_class p k) same ∙ (ordering p v).stable k

  with_class-append : (k : ℕ) (w v : List ℕ) → with_class p k (w ++ v) ≡ with_class p k w ++ with_class p k v
  with_class-append k w v = filter-append (λ c. is_starter p c || p.class c == k) w v

  -- what holds of each member holds of each when they are put in order
  pub list_all-order : (test : ℕ → Bool) (w : List ℕ) → list_all test w ≡ true → list_all test (order p w) ≡ true
  list_all-order test w all = from_classes (order p w) (λ k. ap (list_all test) ((ordering p w).stable k) ∙ kept k w all)
    where
      kept : (k : ℕ) (w : List ℕ) → list_all test w ≡ true → list_all test (with_class p k w) ≡ true
      kept k [] all = refl
      kept k (c ∷ w) all =
          let parts = and_parts (test c) (list_all test w) all in
          next (is_starter p c || p.class c == k) parts.0 (kept k w parts.1)
        where
          next : (b : Bool) → test c ≡ true → list_all test (with_class p k w) ≡ true → list_all test (cond b (c ∷ with_class p k w) (with_class p k w)) ≡ true
          next true here rest = and_from _ _ here rest
          next false here rest = rest

      from_classes : (v : List ℕ) → ((k : ℕ) → list_all test (with_class p k v) ≡ true) → list_all test v ≡ true
      from_classes [] all = refl
      from_classes (c ∷ v) all =
          let own : (is_starter p c || p.class c == p.class c) ≡ true = or_right _ _ (eq-eqb (p.class c) (p.class c) refl) in
          let here : list_all test (c ∷ with_class p (p.class c) v) ≡ true = ap (list_all test) (sym (cond-true _ _ _ own)) ∙ all (p.class c) in
          and_from _ _ (and_parts _ _ here).0 (from_classes v (λ k. next (is_starter p c || p.class c == k) k (all k)))
        where
          next : (b : Bool) (k : ℕ) → list_all test (cond b (c ∷ with_class p k v) (with_class p k v)) ≡ true → list_all test (with_class p k v) ≡ true
          next true k all = (and_parts (test c) _ all).1
          next false k all = all

  -- ---- rows of text that is its own rows, or whose marks are

  -- c is its own row
  abbrev is_own : (ℕ → List ℕ) → ℕ → Bool
  is_own row c = bytes_eq (row c) (c ∷ [])

  is_own-full : (row : ℕ → List ℕ) (w : List ℕ) → IsFull row w → list_all (is_own row) w ≡ true
  is_own-full row w full = list_all-from_AllPass (is_own row) w (λ k d within. (bytes_eq-Decides (row (slice_index_or w k d)) (slice_index_or w k d ∷ [])).1 (full k d within))

  own-full : (row : ℕ → List ℕ) (w : List ℕ) → IsFullText row w → list_all (is_own row) w ≡ true
  own-full row w full = is_own-full row w (λ k d within. (full k d within).1)

  scalar-full : (row : ℕ → List ℕ) (w : List ℕ) → IsFullText row w → list_all scalar w ≡ true
  scalar-full row w full = list_all-from_AllPass scalar w (λ k d within. (full k d within).0)

  own-true : (row : ℕ → List ℕ) (c : ℕ) → is_own row c ≡ true → row c ≡ c ∷ []
  own-true row c own = (bytes_eq-Decides (row c) (c ∷ [])).0 own

  flat_map-own : (row : ℕ → List ℕ) (w : List ℕ) → list_all (is_own row) w ≡ true → flat_map row w ≡ w
  flat_map-own row [] all = refl
  flat_map-own row (c ∷ w) all =
      let parts = and_parts (is_own row c) (list_all (is_own row) w) all in
      ap₂ (λ u v. u ++ v) (own-true row c parts.0) (flat_map-own row w parts.1)

  pub flat_map-full : (row : ℕ → List ℕ) (w : List ℕ) → IsFull row w → flat_map row w ≡ w
  flat_map-full row w full = flat_map-own row w (is_own-full row w full)

  abbrev has_own_mark : ℕ → Bool
  has_own_mark c = is_starter p c || is_own p.compat c

  has_own_mark-row : (c : ℕ) → HasOwnMarks p c → list_all has_own_mark (p.canonical c) ≡ true
  has_own_mark-row c marks = list_all-from_AllPass has_own_mark (p.canonical c) (λ k d within. next _ (marks k d within))
    where
      next : (m : ℕ) → (IsTrue (is_nonstarter p m) → p.compat m ≡ m ∷ []) → has_own_mark m ≡ true
      next m own = ⊎_elim (λ starts. or_left _ _ starts) (λ mark. or_right _ _ ((bytes_eq-Decides (p.compat m) (m ∷ [])).1 (own (ap not mark)))) (cases_Bool (is_starter p m))

  -- the members' compatibility rows, without non-starters of other classes
  abbrev compat_with : ℕ → List ℕ → List ℕ
  compat_with k w = flat_map (λ c. with_class p k (p.compat c)) w

  with_class-compat : (k : ℕ) (w : List ℕ) → list_all has_own_mark w ≡ true → with_class p k (flat_map p.compat w) ≡ compat_with k (with_class p k w)
  with_class-compat k [] all = refl
  with_class-compat k (c ∷ w) all =
      let parts = and_parts (has_own_mark c) (list_all has_own_mark w) all in
      with_class-append k (p.compat c) (flat_map p.compat w)
      ∙ ap (λ v. with_class p k (p.compat c) ++ v) (with_class-compat k w parts.1)
      ∙ next (is_starter p c) (p.class c == k) refl refl parts.0
    where
      next : (s same : Bool) → is_starter p c ≡ s → (p.class c == k) ≡ same → (s || is_own p.compat c) ≡ true
          → with_class p k (p.compat c) ++ compat_with k (with_class p k w) ≡ compat_with k (cond (s || same) (c ∷ with_class p k w) (with_class p k w))
      next true same starts e own = refl
      next false true starts e own = refl
      next false false starts e own =
          let none : with_class p k (p.compat c) ≡ [] = ap (with_class p k) (own-true p.compat c own) ∙ ap₂ (λ s b. cond (s || b) (c ∷ []) []) starts e in
          ap (λ v. v ++ compat_with k (with_class p k w)) none

  -- NFKD sees no difference between a text whose marks are their own rows and that text in order
  order-compat : (w : List ℕ) → list_all has_own_mark w ≡ true → order p (flat_map p.compat (order p w)) ≡ order p (flat_map p.compat w)
  order-compat w all = order-same _ _ (λ k.
      with_class-compat k (order p w) (list_all-order has_own_mark w all)
      ∙ ap (compat_with k) ((ordering p w).stable k)
      ∙ sym (with_class-compat k w all))

  -- ---- a text over audited data

  -- what has no long run is its own stream-safe text
  pub stream_safe-short : (x : List ℕ) → longest p (decomposed Nfkd p x) ≤ max_run → stream_safe p x ≡ x
  stream_safe-short = by_last (λ x. longest p (decomposed Nfkd p x) ≤ max_run → stream_safe p x ≡ x) (λ _. refl) more
    where
      more : (x : List ℕ) (c : ℕ) → (longest p (decomposed Nfkd p x) ≤ max_run → stream_safe p x ≡ x)
          → longest p (decomposed Nfkd p (x ++ c ∷ [])) ≤ max_run → stream_safe p (x ++ c ∷ []) ≡ x ++ c ∷ []
      more x c before short =
          let grown = longest-decomposed-push p Nfkd x c in
          let room : trail p (decomposed Nfkd p x) + lead p (p.compat c) ≤ max_run = omega arith in
          stream_safe-push p x c ∙ ap (λ o. safe_step p o c) (before (omega arith)) ∙ safe_step-room p x c room

  module _ (audited : IsAudited p) where
    joiner_sound : is_sound p joiner ≡ true
    joiner_sound = (audited joiner refl).sound

    sound-scalars : (x : List ℕ) → all_scalars x ≡ true → IsSoundText p x
    sound-scalars [] scalars = refl
    sound-scalars (c ∷ x) scalars = let parts = and_parts _ _ scalars in and_from _ _ (audited c parts.0).sound (sound-scalars x parts.1)

    -- ---- its rows

    list_all-rows : (test : ℕ → Bool) (row : ℕ → List ℕ) → ((c : ℕ) → IsScalar c → list_all test (row c) ≡ true) → (x : List ℕ) → all_scalars x ≡ true → list_all test (flat_map row x) ≡ true
    list_all-rows test row each [] scalars = refl
    list_all-rows test row each (c ∷ x) scalars =
        let parts = and_parts _ _ scalars in
        list_all-append test (row c) _ ∙ and_from _ _ (each c parts.0) (list_all-rows test row each x parts.1)

    full-rows : (f : Form) (c : ℕ) → IsScalar c → IsFullText (row_of f p) (row_of f p c)
    full-rows f c is = of_rows p (λ row. IsFullText row (row c)) (audited c is).full.0 (audited c is).full.1 f

    own-marks : (x : List ℕ) → all_scalars x ≡ true → list_all has_own_mark (decomposed Nfd p x) ≡ true
    own-marks = list_all-rows has_own_mark p.canonical (λ c is. has_own_mark-row c (audited c is).marks)

    with_class-within : (k : ℕ) (x : List ℕ) → all_scalars x ≡ true → with_class p k (flat_map p.compat (decomposed Nfd p x)) ≡ with_class p k (decomposed Nfkd p x)
    with_class-within k [] scalars = refl
    with_class-within k (c ∷ x) scalars =
        let parts = and_parts _ _ scalars in
        ap (with_class p k) (flat_map-append p.compat (p.canonical c) (decomposed Nfd p x))
        ∙ with_class-append k (flat_map p.compat (p.canonical c)) _
        ∙ ap₂ (λ u v. u ++ v) (with_class-same_order _ _ (audited c parts.0).within k) (with_class-within k x parts.1)
        ∙ sym (with_class-append k (p.compat c) (decomposed Nfkd p x))

    -- ---- the forms by decomposition alone

    pub nfkd-nfd : (x : List ℕ) → all_scalars x ≡ true → normal_form Nfkd p (normal_form Nfd p x) ≡ normal_form Nfkd p x
    nfkd-nfd x scalars = order-compat (decomposed Nfd p x) (own-marks x scalars) ∙ order-same _ _ (λ k. with_class-within k x scalars)

    -- such a form is the decomposed text in order
    decomposing : (f : Form) → composes f ≡ false → (w : List ℕ) → finished f p w ≡ order p w
    decomposing f decomposes w = ap (λ b. arranged b p w) decomposes

    normal_form-again : (f : Form) → composes f ≡ false → (x : List ℕ) → all_scalars x ≡ true → normal_form f p (normal_form f p x) ≡ normal_form f p x
    normal_form-again f decomposes x scalars =
        let row = row_of f p in
        let w = decomposed f p x in
        let own = list_all-rows (is_own row) row (λ c is. own-full row (row c) (full-rows f c is)) x scalars in
        decomposing f decomposes _ ∙ ap (λ v. order p (flat_map row v)) (decomposing f decomposes w)
        ∙ ap (order p) (flat_map-own row (order p w) (list_all-order (is_own row) w own)) ∙ order-order p w ∙ sym (decomposing f decomposes w)

    nfkd-form : (f : Form) → composes f ≡ false → (x : List ℕ) → all_scalars x ≡ true → normal_form Nfkd p (normal_form f p x) ≡ normal_form Nfkd p x
    nfkd-form Nfd decomposes x scalars = nfkd-nfd x scalars
    nfkd-form Nfkd decomposes x scalars = normal_form-again Nfkd refl x scalars
    nfkd-form Nfc decomposes x scalars = cc
    nfkd-form Nfkc decomposes x scalars = cc

    -- ---- of stream-safe text

    module _ (f : Form) (decomposes : composes f ≡ false) (x : List ℕ) (scalars : all_scalars x ≡ true) where
      safe_scalars : all_scalars (stream_safe p x) ≡ true
      safe_scalars = scalars-all (stream_safe p x) ∙ list_all-stream_safe p scalar refl x (sym (scalars-all x) ∙ scalars)

      pub stream_safe-again : stream_safe p (safe_form f p x) ≡ safe_form f p x
      unfolding safe_form
      stream_safe-again =
          let safe = stream_safe p x in
          let sound : IsSoundText p safe = sound-scalars safe safe_scalars in
          let runs : longest p (decomposed Nfkd p (normal_form f p safe)) ≡ longest p (decomposed Nfkd p safe) =
          sym (longest-order p (decomposed Nfkd p (normal_form f p safe))) ∙ ap (longest p) (nfkd-form f decomposes safe safe_scalars) ∙ longest-order p (decomposed Nfkd p safe) in
          stream_safe-short (normal_form f p safe) (omega (arith, runs, longest-stream_safe-le p x sound))

      pub safe_form-again : safe_form f p (safe_form f p x) ≡ safe_form f p x
      unfolding safe_form
      safe_form-again = ap (normal_form f p) stream_safe-again ∙ normal_form-again f decomposes (stream_safe p x) safe_scalars

    -- ---- it is a text again

    scalars-safe_form : (f : Form) → composes f ≡ false → (x : List ℕ) → all_scalars x ≡ true → all_scalars (safe_form f p x) ≡ true
    unfolding safe_form
    scalars-safe_form f decomposes x scalars =
        let w = decomposed f p (stream_safe p x) in
        let rows = list_all-rows scalar (row_of f p) (λ c is. scalar-full (row_of f p) (row_of f p c) (full-rows f c is)) (stream_safe p x) (safe_scalars f decomposes x scalars) in
        scalars-all (finished f p w) ∙ ap (list_all scalar) (decomposing f decomposes w) ∙ list_all-order scalar w rows

    pub changes_once : (f : Form) → composes f ≡ false → ChangesOnce f p
    changes_once f decomposes = record {
      text = scalars-safe_form f decomposes;
      sound = λ c scalar. (audited c scalar).sound;
      safe = stream_safe-again f decomposes;
      form = safe_form-again f decomposes;
    }
