-- What the count is in terms of whole texts.
use Rattle.std.proofs.Common.{◌≡◌, ℕ, ◌+◌, ◌≤◌, true, false, List, [], ◌∷◌, ◌++◌, length, map, refl, sym, ap, ◌∙◌, arith}
use Rattle.std.specs.Prelude.{if◌then◌else◌, fold}
use Rattle.std.proofs.lemmas.Bool.{and_from, ltb-false}
use Rattle.std.proofs.lemmas.List.Sums.{fold-append}
use Rattle.nf_forms.specs.Properties.{Properties}
use Rattle.nf_forms.specs.declared.form.Form.TheVariants.{Nfkd}
use Rattle.nf_forms.specs.Runs.{lead, trail}
use Rattle.nf_forms.specs.Forms.{decomposed}
use Rattle.nf_forms.specs.StreamSafe.{joiner, max_run, is_too_long, with_room, safe_step, stream_safe}
use Rattle.nf_forms.specs.Sound.{max_row}
use Rattle.nf_forms.specs.Laws.Runs.{trail-le-length, lead-marks, trail-append}
use Rattle.nf_forms.specs.Laws.StreamSafe.{decomposed-push, trail-decomposed-joiner, sound-safe_step}
use Rattle.nf_forms.specs.Laws.Sound.{JoinerIsPlain, IsSoundText, sound_last}
use Rattle.nf_safe.specs.Count.{counted, passes, count_step, since_step, since_last}

module _ (p : Properties) where
  -- the count stays within the limit, whatever it was
  pub count_step-le : (n : ℕ) (row : List ℕ) → length row ≤ max_row → count_step p n row ≤ max_run
  count_step-le n row few =
      grind (arith, trail-le-length p row, lead-marks p row, ltb-false max_run (n + lead p row))

  pub count_step-within : (n : ℕ) (row : List ℕ) → passes p n row ≡ false → count_step p n row ≡ counted p n row
  count_step-within n row within = ap (λ b. counted p (if b then 0 else n) row) within

  trail-counted : (joined row : List ℕ) → trail p (joined ++ row) ≡ counted p (trail p joined) row
  trail-counted joined row = grind (arith, trail-append p joined row)

  trail-since_step : (joined row : List ℕ) → trail p (since_step p joined row) ≡ count_step p (trail p joined) row
  trail-since_step joined row = grind (arith, trail-counted [] row, trail-counted joined row)

  pub trail-since_last-push : (rows : List (List ℕ)) (row : List ℕ) → trail p (since_last p (rows ++ row ∷ [])) ≡ count_step p (trail p (since_last p rows)) row
  trail-since_last-push rows row = ap (trail p) (fold-append (since_step p) [] rows (row ∷ [])) ∙ trail-since_step (since_last p rows) row

  -- a text goes on without a joiner
  pub trail-decomposed-counted : (x : List ℕ) (c : ℕ) → trail p (decomposed Nfkd p (x ++ c ∷ [])) ≡ counted p (trail p (decomposed Nfkd p x)) (p.compat c)
  trail-decomposed-counted x c = ap (trail p) (decomposed-push p Nfkd x c) ∙ trail-counted (decomposed Nfkd p x) (p.compat c)

  -- one step of the process is one step of the count
  pub trail-decomposed-safe_step : (out : List ℕ) (c : ℕ) → (is_too_long p out c ≡ true → JoinerIsPlain p)
      → trail p (decomposed Nfkd p (safe_step p out c)) ≡ count_step p (trail p (decomposed Nfkd p out)) (p.compat c)
  trail-decomposed-safe_step out c plain =
      let put : is_too_long p out c ≡ true → trail p (decomposed Nfkd p (out ++ joiner ∷ [])) ≡ 0 = λ long. trail-decomposed-joiner p (plain long) Nfkd out in
      grind (arith, put, trail-decomposed-counted (with_room p out c) c)

  -- where the process gives sound characters alone, those before it and the text's own are sound
  pub sound-fold : (out x : List ℕ) → IsSoundText p (fold (safe_step p) out x) → IsSoundText p out × IsSoundText p x
  sound-fold out [] sound = (sound, refl)
  sound-fold out (c ∷ x) sound =
      let parts = sound-fold (safe_step p out c) x sound in
      ((sound-safe_step p out c parts.0).0, and_from _ _ (sound_last p (with_room p out c) c parts.0).1 parts.1)

  -- so the rows since the last joiner tell what the NFKD of the whole output ends in
  trail-fold : (out joined x : List ℕ) → trail p (decomposed Nfkd p out) ≡ trail p joined → IsSoundText p (fold (safe_step p) out x)
      → trail p (decomposed Nfkd p (fold (safe_step p) out x)) ≡ trail p (fold (since_step p) joined (map p.compat x))
  trail-fold out joined [] same sound = same
  trail-fold out joined (c ∷ x) same sound =
      trail-fold (safe_step p out c) (since_step p joined (p.compat c)) x
      (trail-decomposed-safe_step out c (sound-safe_step p out c (sound-fold (safe_step p out c) x sound).0).1
      ∙ ap (λ n. count_step p n (p.compat c)) same ∙ sym (trail-since_step joined (p.compat c))) sound

  pub trail-stream_safe : (x : List ℕ) → IsSoundText p (stream_safe p x)
      → trail p (decomposed Nfkd p (stream_safe p x)) ≡ trail p (since_last p (map p.compat x))
  trail-stream_safe x sound = trail-fold [] [] x refl sound
