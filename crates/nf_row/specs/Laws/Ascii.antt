-- ASCII text over data that leaves it as it is: each character is sound and its own row, none needs a joiner before it,
-- and after an ASCII starter all but the last character is settled.
use Rattle.std.proofs.Common.{◌≡◌, ℕ, ◌+◌, ◌<◌, ◌≤◌, Bool, true, false, not, ◌==◌, cond, List, [], ◌∷◌, ◌++◌, None, refl, sym, ap, ◌∙◌, arith, append_assoc, le-leb}
use Rattle.std.proofs.lemmas.Bool.{and_from, or_left, cond-true, cond-false, le-ltb, ne_eqb}
use Rattle.std.proofs.lemmas.List.{append-nil}
use Rattle.std.proofs.lemmas.List.Elements.{All-head, All-tail}
use Rattle.std.proofs.lemmas.List.Folds.{list_all-append}
use Rattle.std.specs.List.{list_all}
use Rattle.std.specs.Prelude.{unwrap_or}
use Rattle.nf_forms.specs.Properties.{Properties, is_starter}
use Rattle.nf_forms.specs.Runs.{has_starter, lead, trail}
use Rattle.nf_forms.specs.Front.{front, back}
use Rattle.nf_forms.specs.Compose.{starter_only}
use Rattle.nf_forms.specs.declared.form.Form.{Form}
use Rattle.nf_forms.specs.declared.form.Form.TheVariants.{Nfc, Nfd, Nfkc, Nfkd}
use Rattle.nf_forms.specs.Forms.{row_of, decomposed, composes, finished}
use Rattle.nf_forms.specs.StreamSafe.{joiner, max_run, stream_safe}
use Rattle.nf_forms.specs.Sound.{fits, is_sound}
use Rattle.nf_forms.specs.Laws.Sound.{IsSoundText}
use Rattle.nf_forms.specs.Laws.StreamSafe.{stream_safe-push, trail-stream_safe-le}
use Rattle.nf_forms.specs.Laws.Front.{front-append-back}
use Rattle.nf_forms.specs.Laws.Settling.{next_composite, settled_by, front-push_starter, back-push_starter}
use Rattle.nf_row.specs.Ascii.{IsPlainAscii, AreAscii}

-- the first character and those after it
pub ascii-head : (c : ℕ) (cs : List ℕ) → AreAscii (c ∷ cs) → c < 0x80
ascii-head c cs all = All-head (λ c. c < 0x80) c cs all

pub ascii-tail : (c : ℕ) (cs : List ℕ) → AreAscii (c ∷ cs) → AreAscii cs
ascii-tail c cs all = All-tail (λ c. c < 0x80) c cs all

module _ (p : Properties) (plain : IsPlainAscii p) where
  pub starter-ascii : (c : ℕ) → c < 0x80 → is_starter p c ≡ true
  starter-ascii c below = ap (λ k. k == 0) (plain.unchanged c below).class

  pub sound-ascii : (c : ℕ) → c < 0x80 → is_sound p c ≡ true
  sound-ascii c below =
      let own = plain.unchanged c below in
      let same = own.canonical ∙ sym own.compat in
      let leads : lead p (p.canonical c) ≤ lead p (p.compat c) = omega (arith, ap (lead p) same) in
      let trails : trail p (p.canonical c) ≤ trail p (p.compat c) = omega (arith, ap (trail p) same) in
      let other : c ≡ joiner → ⊥ = λ (is : c ≡ joiner). omega arith in
      and_from _ _
      (and_from _ _
      (and_from _ _ (and_from _ _ (ap fits own.canonical) (ap fits own.compat)) (and_from _ _ (le-leb _ _ leads) (le-leb _ _ trails)))
      (or_left _ _ (ap (has_starter p) own.canonical ∙ or_left _ _ (starter-ascii c below))))
      (or_left _ _ (ap not (ne_eqb c joiner other)))

  pub row-ascii : (f : Form) (c : ℕ) → c < 0x80 → row_of f p c ≡ c ∷ []
  row-ascii Nfc c below = (plain.unchanged c below).canonical
  row-ascii Nfd c below = (plain.unchanged c below).canonical
  row-ascii Nfkc c below = (plain.unchanged c below).compat
  row-ascii Nfkd c below = (plain.unchanged c below).compat

  pub decomposed-ascii : (f : Form) (cs : List ℕ) → AreAscii cs → decomposed f p cs ≡ cs
  decomposed-ascii f [] all = refl
  decomposed-ascii f (c ∷ cs) all =
      ap (λ row. row ++ decomposed f p cs) (row-ascii f c (ascii-head c cs all)) ∙ ap (λ v. c ∷ v) (decomposed-ascii f cs (ascii-tail c cs all))

  -- ---- the Stream-Safe Text Process

  -- one more needs no joiner, whatever stands before it
  safe_step-ascii : (x : List ℕ) (c : ℕ) → c < 0x80 → IsSoundText p (stream_safe p x) → stream_safe p (x ++ c ∷ []) ≡ stream_safe p x ++ c ∷ []
  safe_step-ascii x c below sound =
      let own = plain.unchanged c below in
      let starts = starter-ascii c below in
      let begins : lead p (p.compat c) ≡ 0 = ap (lead p) own.compat ∙ ap (λ b. cond (not b) 1 0) starts in
      let room : trail p (decomposed Nfkd p (stream_safe p x)) + lead p (p.compat c) ≤ max_run = omega (arith, trail-stream_safe-le p Nfkd x sound, begins) in
      stream_safe-push p x c ∙ ap (λ o. o ++ c ∷ []) (cond-false _ _ _ (le-ltb _ _ room))

  pub stream_safe-ascii : (cs : List ℕ) → AreAscii cs → (x : List ℕ) → IsSoundText p (stream_safe p x) → stream_safe p (x ++ cs) ≡ stream_safe p x ++ cs
  stream_safe-ascii [] all x sound = ap (stream_safe p) (append-nil x) ∙ sym (append-nil (stream_safe p x))
  stream_safe-ascii (c ∷ cs) all x sound =
      let below = ascii-head c cs all in
      let here = safe_step-ascii x c below sound in
      let still : IsSoundText p (stream_safe p (x ++ c ∷ [])) =
      ap (λ o. list_all (is_sound p) o) here ∙ list_all-append (is_sound p) (stream_safe p x) (c ∷ []) ∙ and_from _ _ sound (and_from _ _ (sound-ascii c below) refl) in
      ap (stream_safe p) (sym (append_assoc x (c ∷ []) cs))
      ∙ stream_safe-ascii cs (ascii-tail c cs all) (x ++ c ∷ []) still
      ∙ ap (λ o. o ++ cs) here ∙ append_assoc (stream_safe p x) (c ∷ []) cs

  -- ---- what is settled

  -- two ASCII characters do not compose
  apart : (b : Bool) (a c : ℕ) → a < 0x80 → c < 0x80 → next_composite p b (a ∷ []) c ≡ None
  apart false a c first second = refl
  apart true a c first second = cond-true _ _ _ (starter-ascii a first) ∙ ap (starter_only p) (plain.pairs a first c second)

  -- one more stands alone, and settles the one before it
  push-ascii : (f : Form) (w : List ℕ) (a c : ℕ) → back p (finished f p w) ≡ a ∷ [] → a < 0x80 → c < 0x80
      → (back p (finished f p (w ++ c ∷ [])) ≡ c ∷ []) × (front p (finished f p (w ++ c ∷ [])) ≡ front p (finished f p w) ++ a ∷ [])
  push-ascii f w a c alone first second =
      let none = ap (λ z. next_composite p (composes f) z c) alone ∙ apart (composes f) a c first second in
      let starts = starter-ascii c second in (
        back-push_starter p (composes f) w c starts ∙ ap (λ o. unwrap_or o c ∷ []) none,
        front-push_starter p (composes f) w c starts ∙ ap (λ o. settled_by p o (finished f p w)) none
            ∙ sym (front-append-back p (finished f p w)) ∙ ap (λ v. front p (finished f p w) ++ v) alone,
      )

  -- after one ASCII starter alone a run of ASCII settles all but its last character
  pub finished-ascii : (f : Form) (w : List ℕ) (a : ℕ) (cs : List ℕ) (last : ℕ) → back p (finished f p w) ≡ a ∷ [] → a < 0x80 → AreAscii (cs ++ last ∷ [])
      → (back p (finished f p (w ++ (cs ++ last ∷ []))) ≡ last ∷ []) × (front p (finished f p (w ++ (cs ++ last ∷ []))) ≡ front p (finished f p w) ++ (a ∷ cs))
  finished-ascii f w a [] last alone below all = push-ascii f w a last alone below (ascii-head last [] all)
  finished-ascii f w a (c ∷ cs) last alone below all =
      let next = ascii-head c (cs ++ last ∷ []) all in
      let here = push-ascii f w a c alone below next in
      let rest = finished-ascii f (w ++ c ∷ []) c cs last (here.0) next (ascii-tail c (cs ++ last ∷ []) all) in
      let text = append_assoc w (c ∷ []) (cs ++ last ∷ []) in (
        sym (ap (λ v. back p (finished f p v)) text) ∙ rest.0,
        sym (ap (λ v. front p (finished f p v)) text) ∙ rest.1 ∙ ap (λ v. v ++ (c ∷ cs)) (here.1) ∙ append_assoc (front p (finished f p w)) (a ∷ []) (c ∷ cs),
      )
