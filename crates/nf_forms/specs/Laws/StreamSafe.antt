-- The stream-safe text and its decompositions as the text grows at its end, and how long their runs are.
use Rattle.std.proofs.Common.{subst, flat_map, ◌≡◌, ℕ, ◌+◌, ◌≤◌, Bool, true, false, List, [], ◌∷◌, ◌++◌, length, take, drop, max, refl, sym, ap, ◌∙◌, arith, append-nil, ◌==◌}
use Rattle.std.proofs.lemmas.Bool.{cond-false, cond_both, and_from, and_parts, ltb-false}
use Rattle.std.proofs.lemmas.Grind.{flat_map-append}
use Rattle.std.proofs.lemmas.List.{length-take, take-append-drop}
use Rattle.std.proofs.lemmas.List.Folds.{list_all-append}
use Rattle.std.proofs.lemmas.List.Sums.{fold-append}
use Rattle.std.proofs.Math.Seq.{take-length}
use Rattle.std.specs.List.{list_all}
use Rattle.std.specs.Prelude.{if◌then◌else◌}
use Rattle.nf_forms.specs.Properties.{Properties}
use Rattle.nf_forms.specs.Runs.{has_starter, lead, trail, longest}
use Rattle.nf_forms.specs.declared.form.Form.{Form}
use Rattle.nf_forms.specs.declared.form.Form.TheVariants.{Nfc, Nfd, Nfkc, Nfkd}
use Rattle.nf_forms.specs.Forms.{IsOwnRow, row_of, decomposed}
use Rattle.nf_forms.specs.StreamSafe.{joiner, max_run, is_too_long, with_room, safe_step, stream_safe}
use Rattle.nf_forms.specs.Sound.{max_row, is_sound}
use Rattle.nf_forms.specs.Laws.Last.{by_last}
use Rattle.nf_forms.specs.Laws.Runs.{lead-le-length, trail-le-length, lead-append, trail-marks, trail-append, trail-push, longest-append}
use Rattle.nf_forms.specs.Laws.Sound.{JoinerIsPlain, IsSound, IsSoundText, IsSound-from_test, JoinerIsPlain-from_sound, sound_last, lead-joiner}

module _ (p : Properties) where
  -- what holds of the rows of both kinds holds of those that a form asks for
  pub of_rows : (P : (ℕ → List ℕ) → Type 0) → P p.canonical → P p.compat → (f : Form) → P (row_of f p)
  of_rows P canonical compat Nfc = canonical
  of_rows P canonical compat Nfd = canonical
  of_rows P canonical compat Nfkc = compat
  of_rows P canonical compat Nfkd = compat

  pub own_row : (c : ℕ) → p.canonical c ≡ c ∷ [] → p.compat c ≡ c ∷ [] → (f : Form) → row_of f p c ≡ c ∷ []
  own_row c canonical compat = of_rows (λ row. row c ≡ c ∷ []) canonical compat

  pub row-own : (f : Form) (c : ℕ) → IsOwnRow p c → row_of f p c ≡ c ∷ []
  row-own f c own = own_row c own.canonical own.compat f

  pub stream_safe-push : (x : List ℕ) (c : ℕ) → stream_safe p (x ++ c ∷ []) ≡ safe_step p (stream_safe p x) c
  stream_safe-push x c = fold-append (safe_step p) [] x (c ∷ [])

  pub decomposed-append : (f : Form) (x y : List ℕ) → decomposed f p (x ++ y) ≡ decomposed f p x ++ decomposed f p y
  decomposed-append f x y = flat_map-append (row_of f p) x y

  pub decomposed-push : (f : Form) (x : List ℕ) (c : ℕ) → decomposed f p (x ++ c ∷ []) ≡ decomposed f p x ++ row_of f p c
  decomposed-push f x c = decomposed-append f x (c ∷ []) ∙ ap (λ row. decomposed f p x ++ row) (append-nil (row_of f p c))

  pub trail-decomposed-push : (f : Form) (x : List ℕ) (c : ℕ)
      → trail p (decomposed f p (x ++ c ∷ [])) ≡ (if has_starter p (row_of f p c) then trail p (row_of f p c) else length (row_of f p c) + trail p (decomposed f p x))
  trail-decomposed-push f x c = ap (trail p) (decomposed-push f x c) ∙ trail-append p (decomposed f p x) (row_of f p c)

  pub longest-decomposed-push : (f : Form) (x : List ℕ) (c : ℕ) → longest p (decomposed f p (x ++ c ∷ []))
      ≡ max (longest p (decomposed f p x)) (max (trail p (decomposed f p x) + lead p (row_of f p c)) (longest p (row_of f p c)))
  longest-decomposed-push f x c = ap (longest p) (decomposed-push f x c) ∙ longest-append p (decomposed f p x) (row_of f p c)

  -- where the joiner passes a test, what passes it does so as stream-safe text too
  pub list_all-stream_safe : (test : ℕ → Bool) → test joiner ≡ true → (x : List ℕ) → list_all test x ≡ true → list_all test (stream_safe p x) ≡ true
  list_all-stream_safe test joins = by_last (λ x. list_all test x ≡ true → list_all test (stream_safe p x) ≡ true) (λ _. refl) more
    where
      push : (o : List ℕ) (c : ℕ) → list_all test o ≡ true → test c ≡ true → list_all test (o ++ c ∷ []) ≡ true
      push o c front last = list_all-append test o (c ∷ []) ∙ and_from _ _ front (and_from _ _ last refl)

      parts : (b : Bool) (o : List ℕ) → list_all test o ≡ true → list_all test (if b then o ++ joiner ∷ [] else o) ≡ true
      parts true o all = push o joiner all joins
      parts false o all = all

      more : (x : List ℕ) (c : ℕ) → (list_all test x ≡ true → list_all test (stream_safe p x) ≡ true)
          → list_all test (x ++ c ∷ []) ≡ true → list_all test (stream_safe p (x ++ c ∷ [])) ≡ true
      more x c before all =
          let members = and_parts _ _ (sym (list_all-append test x (c ∷ [])) ∙ all) in
          let out = stream_safe p x in
          ap (list_all test) (stream_safe-push x c)
          ∙ push (with_room p out c) c (parts (is_too_long p out c) out (before members.0)) (and_parts _ _ members.1).0

  -- where the joiner is sound, the process puts nothing unsound
  pub sound-stream_safe : is_sound p joiner ≡ true → (x : List ℕ) → IsSoundText p x → IsSoundText p (stream_safe p x)
  sound-stream_safe = list_all-stream_safe (is_sound p)

  -- where a step puts nothing unsound, what stood before is sound, and the joiner is plain if it is put
  pub sound-safe_step : (o : List ℕ) (c : ℕ) → IsSoundText p (safe_step p o c)
      → IsSoundText p o × (is_too_long p o c ≡ true → JoinerIsPlain p)
  sound-safe_step o c sound = next (is_too_long p o c) (sound_last p (with_room p o c) c sound).0
    where
      next : (b : Bool) → IsSoundText p (if b then o ++ joiner ∷ [] else o) → IsSoundText p o × (b ≡ true → JoinerIsPlain p)
      next true sound = let members = sound_last p o joiner sound in (members.0, λ _. JoinerIsPlain-from_sound p members.1)
      next false sound = (sound, λ e. cc)

  pub trail-decomposed-joiner : JoinerIsPlain p → (f : Form) (o : List ℕ) → trail p (decomposed f p (o ++ joiner ∷ [])) ≡ 0
  trail-decomposed-joiner plain f o =
      ap (trail p) (decomposed-push f o joiner ∙ ap (λ row. decomposed f p o ++ row) (own_row joiner plain.canonical plain.compat f))
      ∙ trail-push p (decomposed f p o) joiner ∙ ap (λ k. if k == 0 then 0 else trail p (decomposed f p o) + 1) plain.class

  -- no form ends in more non-starters than NFKD
  canonical-le : (o : List ℕ) → IsSoundText p o → trail p (decomposed Nfd p o) ≤ trail p (decomposed Nfkd p o)
  canonical-le = by_last (λ o. IsSoundText p o → trail p (decomposed Nfd p o) ≤ trail p (decomposed Nfkd p o)) (λ _. omega arith) more
    where
      next : (b d : Bool) (t s tc lc n tk lk m : ℕ) → t ≡ (if b then tc else lc + n) → s ≡ (if d then tk else lk + m)
          → (b ≡ false → d ≡ false) → (b ≡ false → tc ≡ lc) → (d ≡ false → tk ≡ lk) → tc ≤ tk → n ≤ m → t ≤ s
      next true true t s tc lc n tk lk m e f agree c k within before = omega arith
      next true false t s tc lc n tk lk m e f agree c k within before = omega (arith, k refl)
      next false true t s tc lc n tk lk m e f agree c k within before = let absent : true ≡ false = agree refl in cc
      next false false t s tc lc n tk lk m e f agree c k within before = omega (arith, c refl, k refl)

      more : (o : List ℕ) (c : ℕ) → (IsSoundText p o → trail p (decomposed Nfd p o) ≤ trail p (decomposed Nfkd p o))
          → IsSoundText p (o ++ c ∷ []) → trail p (decomposed Nfd p (o ++ c ∷ [])) ≤ trail p (decomposed Nfkd p (o ++ c ∷ []))
      more o c before sound =
          let parts = sound_last p o c sound in
          let row = IsSound-from_test p c parts.1 in
          next (has_starter p (p.canonical c)) (has_starter p (p.compat c)) _ _ (trail p (p.canonical c)) (length (p.canonical c)) _
          (trail p (p.compat c)) (length (p.compat c)) _ (trail-decomposed-push Nfd o c) (trail-decomposed-push Nfkd o c)
          row.marks_agree (trail-marks p (p.canonical c)) (trail-marks p (p.compat c)) row.trail_within (before parts.0)

  pub trail-decomposed-le : (f : Form) (o : List ℕ) → IsSoundText p o → trail p (decomposed f p o) ≤ trail p (decomposed Nfkd p o)
  trail-decomposed-le f o sound = of_rows (λ row. trail p (flat_map row o) ≤ trail p (decomposed Nfkd p o)) (canonical-le o sound) (omega arith) f

  -- before c, and a joiner where it needs one, there is room for the run that c begins with
  pub trail-with_room-le : (o : List ℕ) (c : ℕ) → IsSoundText p (safe_step p o c)
      → trail p (decomposed Nfkd p (with_room p o c)) + lead p (p.compat c) ≤ max_run
  trail-with_room-le o c sound =
      next (is_too_long p o c) refl (IsSound-from_test p c (sound_last p (with_room p o c) c sound).1) (sound_last p (with_room p o c) c sound).0
    where
      next : (b : Bool) → is_too_long p o c ≡ b → IsSound p c → IsSoundText p (if b then o ++ joiner ∷ [] else o)
          → trail p (decomposed Nfkd p (if b then o ++ joiner ∷ [] else o)) + lead p (p.compat c) ≤ max_run
      next true e row sound =
          let plain = JoinerIsPlain-from_sound p (sound_last p o joiner sound).1 in
          omega (arith, trail-decomposed-joiner plain Nfkd o, lead-le-length p (p.compat c), row.compat_few)
      next false e row sound = ltb-false max_run _ e

  -- a front of non-starters is part of the first run
  length-take-le-lead : (n : ℕ) (w : List ℕ) → has_starter p (take n w) ≡ false → length (take n w) ≤ lead p w
  length-take-le-lead n w none = omega (arith, ap (lead p) (sym (take-append-drop n w)) ∙ lead-append p (take n w) (drop n w) ∙ cond-false _ _ _ none)

  -- while c's row goes on after the output, the last run stays within the limit in every form
  pub trail-take-le : (f : Form) (o : List ℕ) (c n : ℕ) → IsSoundText p (safe_step p o c)
      → trail p (decomposed f p (with_room p o c) ++ take n (row_of f p c)) ≤ max_run
  trail-take-le f o c n sound =
      let members = sound_last p (with_room p o c) c sound in
      let row = IsSound-from_test p c members.1 in
      let piece = take n (row_of f p c) in
      let few : length (take n (row_of f p c)) ≤ max_row = of_rows (λ row_of. length (take n (row_of c)) ≤ max_row)
      (omega (arith, length-take n (p.canonical c), row.canonical_few)) (omega (arith, length-take n (p.compat c), row.compat_few)) f in
      let leads : lead p (row_of f p c) ≤ lead p (p.compat c) = of_rows (λ row_of. lead p (row_of c) ≤ lead p (p.compat c)) row.lead_within (omega arith) f in
      subst (λ t. t ≤ max_run) (sym (trail-append p (decomposed f p (with_room p o c)) piece))
      (cond_both (has_starter p piece) _ _ (λ t. t ≤ max_run)
      (λ some. omega (arith, trail-le-length p piece, few))
      (λ none. omega (arith, length-take-le-lead n (row_of f p c) none, leads, trail-decomposed-le f (with_room p o c) members.0, trail-with_room-le o c sound)))

  pub trail-stream_safe-le : (f : Form) (x : List ℕ) → IsSoundText p (stream_safe p x)
      → trail p (decomposed f p (stream_safe p x)) ≤ max_run
  trail-stream_safe-le f = by_last (λ x. IsSoundText p (stream_safe p x) → trail p (decomposed f p (stream_safe p x)) ≤ max_run) (λ _. omega arith) more
    where
      more : (x : List ℕ) (c : ℕ) → (IsSoundText p (stream_safe p x) → trail p (decomposed f p (stream_safe p x)) ≤ max_run)
          → IsSoundText p (stream_safe p (x ++ c ∷ [])) → trail p (decomposed f p (stream_safe p (x ++ c ∷ []))) ≤ max_run
      more x c before sound =
          let out = stream_safe p x in
          let whole = ap (λ o. list_all (is_sound p) o) (sym (stream_safe-push x c)) ∙ sound in
          let here = trail-take-le f out c (length (row_of f p c)) whole in
          let same : trail p (decomposed f p (stream_safe p (x ++ c ∷ []))) ≡ trail p (decomposed f p (with_room p out c) ++ take (length (row_of f p c)) (row_of f p c)) =
          ap (λ o. trail p (decomposed f p o)) (stream_safe-push x c) ∙ ap (trail p) (decomposed-push f (with_room p out c) c)
          ∙ ap (λ row. trail p (decomposed f p (with_room p out c) ++ row)) (sym (take-length (row_of f p c))) in
          omega (arith, here, same)

  pub longest-le-length : (w : List ℕ) → longest p w ≤ length w
  longest-le-length [] = omega arith
  longest-le-length (c ∷ w) = omega (arith, lead-le-length p (c ∷ w), longest-le-length w)

  -- the stream-safe text's NFKD has no long run (before it is put in order, which changes no run)
  pub longest-stream_safe-le : (x : List ℕ) → IsSoundText p (stream_safe p x) → longest p (decomposed Nfkd p (stream_safe p x)) ≤ max_run
  longest-stream_safe-le = by_last (λ x. IsSoundText p (stream_safe p x) → longest p (decomposed Nfkd p (stream_safe p x)) ≤ max_run) (λ _. omega arith) more
    where
      more : (x : List ℕ) (c : ℕ) → (IsSoundText p (stream_safe p x) → longest p (decomposed Nfkd p (stream_safe p x)) ≤ max_run)
          → IsSoundText p (stream_safe p (x ++ c ∷ [])) → longest p (decomposed Nfkd p (stream_safe p (x ++ c ∷ []))) ≤ max_run
      more x c before sound =
          let out = stream_safe p x in
          let whole = ap (λ o. list_all (is_sound p) o) (sym (stream_safe-push x c)) ∙ sound in
          let members = sound_last p (with_room p out c) c whole in
          omega (
            arith,
            ap (λ o. longest p (decomposed Nfkd p o)) (stream_safe-push x c),
            longest-decomposed-push Nfkd (with_room p out c) c,
            after (is_too_long p out c) members.0,
            trail-with_room-le out c whole,
            longest-le-length (p.compat c),
            (IsSound-from_test p c members.1).compat_few,
          )
        where
          after : (b : Bool) → IsSoundText p (if b then stream_safe p x ++ joiner ∷ [] else stream_safe p x)
              → longest p (decomposed Nfkd p (if b then stream_safe p x ++ joiner ∷ [] else stream_safe p x)) ≤ max_run
          after true sound =
              let members = sound_last p (stream_safe p x) joiner sound in
              let plain = JoinerIsPlain-from_sound p members.1 in
              omega (
                arith,
                longest-decomposed-push Nfkd (stream_safe p x) joiner,
                before members.0,
                trail-stream_safe-le Nfkd x members.0,
                lead-joiner p plain,
                longest-le-length (p.compat joiner),
                ap length plain.compat,
              )
          after false sound = before sound
