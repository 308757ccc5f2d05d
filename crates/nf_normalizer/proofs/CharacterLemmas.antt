-- One character more.
use Rattle.nf_normalizer.proofs.Common.{◌≡◌, ℕ, ◌+◌, ◌≤◌, Bool, true, false, List, [], ◌∷◌, ◌++◌, Ok, refl, sym, ◌∙◌, arith, encode_utf8_all, ltb-false, encodes-append, Properties, Form, Nfc, Nfd, Nfkd, has_starter, lead, trail, front, row_of, decomposed, finished, joiner, max_run, is_too_long, with_room, stream_safe, is_sound, safe_form, lead-marks, lead-le-length, trail-marks, stream_safe-push, decomposed-push, JoinerIsPlain, IsSound, IsSound-from_test, JoinerIsPlain-from_sound, run_len, Pending, Normalizer, settled, is_usable, Start, Holds, HasTaken, IsWithin, HasRoom, run_after, front_utf8, settled_text, Pushes, PutsJoiner, MakesRoom, TakesChar, is_usable-push}
use Rattle.std.proofs.lemmas.Bool.Decides.{nat_tests}
use Rattle.nf_safe.specs.Count.{counted, passes, count_step}
use Rattle.nf_safe.specs.Laws.Count.{count_step-le, count_step-within, trail-decomposed-safe_step}

module _ (p : Properties) where
  -- what holds of both rows of a character holds of the row that a form asks for
  of_row : (Q : List ℕ → Type 0) (c : ℕ) → Q (p.canonical c) → Q (p.compat c) → (f : Form) → Q (row_of f p c)
  of_row Q c canonical compat Nfc = canonical
  of_row Q c canonical compat Nfd = canonical
  of_row Q c canonical compat _ = compat

  pub is_usable-unsound : (x : List ℕ) (c : ℕ) → is_sound p c ≡ false → is_usable p (x ++ c ∷ []) ≡ false
  is_usable-unsound x c unsound = is_usable-push p x c ∙ grind (arith, nat_tests)

  -- the run after the row of a sound character is no longer than what is counted
  pub run_after-le : (f : Form) (c run n : ℕ) → is_sound p c ≡ true → run ≤ n → run_after p run (row_of f p c) ≤ counted p n (p.compat c)
  run_after-le f c run n sound below =
      of_row (λ w. run_after p run w ≤ counted p n (p.compat c)) c (at (p.canonical c) row.marks_agree row.trail_within row.lead_within)
      (at (p.compat c) (λ e. e) (omega arith) (omega arith)) f
    where
      row : IsSound p c
      row = IsSound-from_test p c sound

      at : (w : List ℕ) → (has_starter p w ≡ false → has_starter p (p.compat c) ≡ false) → trail p w ≤ trail p (p.compat c) → lead p w ≤ lead p (p.compat c)
          → run_after p run w ≤ counted p n (p.compat c)
      at w agree trails leads = grind (arith, lead-marks p w, lead-marks p (p.compat c), trail-marks p (p.compat c))

  lead-row : (f : Form) (c : ℕ) → is_sound p c ≡ true → lead p (row_of f p c) ≤ lead p (p.compat c)
  lead-row f c sound = of_row (λ row. lead p row ≤ lead p (p.compat c)) c (IsSound-from_test p c sound).lead_within (omega arith) f

  module _ (f : Form) where
    pub settled_text-front : (x : List ℕ) → settled_text f p x ≡ front_utf8 f p (decomposed f p (stream_safe p x))
    unfolding settled safe_form
    settled_text-front x = refl

    -- what is settled, and then the rest
    pub settled_text-rest : (x rest : List ℕ) → let w = decomposed f p (stream_safe p x) in front p (finished f p w) ++ rest ≡ finished f p w
        → settled_text f p x ++ encode_utf8_all rest ≡ encode_utf8_all (safe_form f p x)
    unfolding settled safe_form
    settled_text-rest x rest is = rw (← encodes-append, is)

    decomposed-safe : (x : List ℕ) (c : ℕ) → decomposed f p (stream_safe p (x ++ c ∷ [])) ≡ decomposed f p (with_room p (stream_safe p x) c) ++ row_of f p c
    decomposed-safe x c = rw (stream_safe-push p x c, decomposed-push p f)

    -- the row follows, and so the character was taken
    pub TakesChar-row : {part : Normalizer} {pending : Pending} {start : Start} {middle room x row : List ℕ} (c : ℕ) {joined : Bool} → MakesRoom f p part start middle x c (Ok joined) → row ≡ row_of part.form p c
        → Pushes f p pending start room (decomposed f p (with_room p (stream_safe p x) c) ++ row) → TakesChar f p (record part { pending = pending }) start room x c (Ok joined)
    TakesChar-row {x = x} c parts is pushed =
        let here = parts.0 in
        let done = rw (is, here.form, ← decomposed-safe x c) at pushed in (
          record { usable = here.usable; form = here.form; plain = here.plain; count = here.count; pending = done.0 },
          rw (settled_text-front (x ++ c ∷ [])) done.1,
          parts.2,
        )

  -- a character is counted
  module _ (taken : Normalizer) (c : ℕ) {n : ℕ} (counts : n ≡ count_step p taken.counter (p.compat c)) (sound : is_sound p c ≡ true) where
    bound : n ≤ 30
    bound = omega (arith, counts, count_step-le p taken.counter (p.compat c) (IsSound-from_test p c sound).compat_few)

    -- there is room without a joiner
    pub HasRoom-without : IsWithin taken → passes p taken.counter (p.compat c) ≡ false → HasRoom p (record taken { counter = n }) c
    HasRoom-without within short = record {
      lead = omega (arith, within.run, lead-row taken.form c sound, ltb-false max_run (taken.counter + lead p (p.compat c)) short);
      run = rw (counts, count_step-within p taken.counter (p.compat c) short) (run_after-le taken.form c (run_len taken.pending) taken.counter sound within.run);
      bound = bound;
    }

    -- and with one
    pub HasRoom-with : {pending : Pending} → passes p taken.counter (p.compat c) ≡ true → run_len pending ≡ 0 → HasRoom p (record taken { counter = n; pending = pending }) c
    HasRoom-with {pending} long run = record {
      lead = omega (arith, run, lead-row taken.form c sound, lead-le-length p (p.compat c), (IsSound-from_test p c sound).compat_few);
      run = rw (counts, long) (run_after-le taken.form c (run_len pending) 0 sound (omega (arith, run)));
      bound = bound;
    }

    module _ {f : Form} {x : List ℕ} (before : HasTaken f p taken x) where
      long_is : passes p taken.counter (p.compat c) ≡ is_too_long p (stream_safe p x) c
      long_is = rw before.count

      count_is : (is_too_long p (stream_safe p x) c ≡ true → JoinerIsPlain p) → n ≡ trail p (decomposed Nfkd p (stream_safe p (x ++ c ∷ [])))
      count_is plain = rw (counts, before.count, stream_safe-push p x c, trail-decomposed-safe_step p (stream_safe p x) c plain)

      -- with a joiner or without
      room_at : {pending : Pending} {start : Start} {room : List ℕ} (joined : Bool) → joined ≡ is_too_long p (stream_safe p x) c → (joined ≡ true → is_sound p joiner ≡ true)
          → Pushes f p pending start room (decomposed f p (with_room p (stream_safe p x) c)) → MakesRoom f p (record taken { counter = n; pending = pending }) start room x c (Ok joined)
      room_at joined is joins pushes = (
        record {
          usable = is_usable-push p x c ∙ grind (arith, nat_tests, before.usable);
          form = before.form;
          plain = before.plain;
          count = count_is (λ e. JoinerIsPlain-from_sound p (joins (is ∙ e)));
          pending = pushes.0;
        },
        pushes.1,
        is,
      )

      pub MakesRoom-without : {start : Start} {room : List ℕ} → passes p taken.counter (p.compat c) ≡ false → Holds start room (settled_text f p x) → MakesRoom f p (record taken { counter = n }) start room x c (Ok false)
      MakesRoom-without short holds = let is = rw long_is at short in room_at false (sym is) (λ e. cc) (rw is (before.pending, rw (← settled_text-front f x) holds))

      pub MakesRoom-with : {pending : Pending} {start : Start} {room : List ℕ} → passes p taken.counter (p.compat c) ≡ true → PutsJoiner f p pending start room (decomposed f p (stream_safe p x)) (Ok tt)
          → MakesRoom f p (record taken { counter = n; pending = pending }) start room x c (Ok true)
      MakesRoom-with long puts =
          let is = rw long_is at long in
          let plain = JoinerIsPlain-from_sound p puts.0 in
          room_at true (sym is) (λ _. puts.0) (rw (is, decomposed-push p f, of_row (λ row. row ≡ joiner ∷ []) joiner plain.canonical plain.compat f) puts.1)

      pub MakesRoom-stopped : {start : Start} {room : List ℕ} → passes p taken.counter (p.compat c) ≡ true → (is_sound p joiner ≡ false) × Holds start room (front_utf8 f p (decomposed f p (stream_safe p x)))
          → (is_usable p (x ++ c ∷ []) ≡ false) × Holds start room (settled_text f p x)
      MakesRoom-stopped long puts = (is_usable-push p x c ∙ grind (arith, nat_tests, long_is, long, puts.0), rw (settled_text-front f x) puts.1)
