-- The parts of soundness, and what the test for it tells.
use Rattle.std.proofs.Common.{◌≡◌, ℕ, ◌≤◌, true, false, not, ◌&&◌, ◌||◌, ◌==◌, cond, List, [], ◌∷◌, ◌++◌, length, refl, sym, ap, ◌∙◌}
use Rattle.std.proofs.lemmas.Bool.{not-true, and_parts, leb-true, eqb-true, eq-eqb}
use Rattle.std.proofs.lemmas.Slice.Eq.{bytes_eq-Decides}
use Rattle.std.proofs.lemmas.List.Folds.{list_all-append}
use Rattle.std.specs.List.{list_all}
use Rattle.std.specs.Prelude.{IsTrue}
use Rattle.nf_forms.specs.Properties.{Properties}
use Rattle.nf_forms.specs.Runs.{has_starter, lead, trail}
use Rattle.nf_forms.specs.StreamSafe.{joiner}
use Rattle.nf_forms.specs.Sound.{max_row, joiner_is_plain, is_sound}

-- the joiner is a starter that is its own row
pub record JoinerIsPlain (p : Properties) : Type 0 where
  pub canonical : p.canonical joiner ≡ joiner ∷ []
  pub compat : p.compat joiner ≡ joiner ∷ []
  pub class : p.class joiner ≡ 0

-- the parts of soundness
pub record IsSound (p : Properties) (c : ℕ) : Type 0 where
  pub canonical_some : 1 ≤ length (p.canonical c)
  pub canonical_few : length (p.canonical c) ≤ max_row
  pub compat_some : 1 ≤ length (p.compat c)
  pub compat_few : length (p.compat c) ≤ max_row
  pub lead_within : lead p (p.canonical c) ≤ lead p (p.compat c)
  pub trail_within : trail p (p.canonical c) ≤ trail p (p.compat c)
  pub marks_agree : has_starter p (p.canonical c) ≡ false → has_starter p (p.compat c) ≡ false
  pub plain : c ≡ joiner → JoinerIsPlain p

-- each character of the text is sound
abbrev pub IsSoundText : Properties → List ℕ → Type 0
IsSoundText p x = IsTrue (list_all (is_sound p) x)

module _ (p : Properties) where
  JoinerIsPlain-from_test : joiner_is_plain p ≡ true → JoinerIsPlain p
  JoinerIsPlain-from_test e =
      let outer = and_parts _ _ e in
      let inner = and_parts _ _ outer.0 in
      record {
        canonical = (bytes_eq-Decides (p.canonical joiner) (joiner ∷ [])).0 inner.0;
        compat = (bytes_eq-Decides (p.compat joiner) (joiner ∷ [])).0 inner.1;
        class = eqb-true (p.class joiner) 0 outer.1;
      }

  pub IsSound-from_test : (c : ℕ) → is_sound p c ≡ true → IsSound p c
  IsSound-from_test c e =
      let plain = and_parts _ _ e in
      let marks = and_parts _ _ plain.0 in
      let ends = and_parts _ _ marks.0 in
      let sizes = and_parts _ _ ends.0 in
      let canonical = and_parts _ _ sizes.0 in
      let compat = and_parts _ _ sizes.1 in
      let within = and_parts _ _ ends.1 in
      record {
        canonical_some = leb-true _ _ canonical.0;
        canonical_few = leb-true _ _ canonical.1;
        compat_some = leb-true _ _ compat.0;
        compat_few = leb-true _ _ compat.1;
        lead_within = leb-true _ _ within.0;
        trail_within = leb-true _ _ within.1;
        marks_agree = λ none. not-true _ (sym (ap (λ b. b || not (has_starter p (p.compat c))) none) ∙ marks.1);
        plain = λ is. JoinerIsPlain-from_test (sym (ap (λ b. not b || joiner_is_plain p) (eq-eqb c joiner is)) ∙ plain.1);
      }

  pub JoinerIsPlain-from_sound : is_sound p joiner ≡ true → JoinerIsPlain p
  JoinerIsPlain-from_sound e = (IsSound-from_test joiner e).plain refl

  -- the members of a sound text
  pub sound_last : (o : List ℕ) (c : ℕ) → IsSoundText p (o ++ c ∷ []) → IsSoundText p o × (is_sound p c ≡ true)
  sound_last o c sound =
      let parts = and_parts (list_all (is_sound p) o) (is_sound p c && true) (sym (list_all-append (is_sound p) o (c ∷ [])) ∙ sound) in
      (parts.0, (and_parts (is_sound p c) true parts.1).0)

  -- after a starter that is its own row the count is reset
  pub lead-joiner : JoinerIsPlain p → lead p (p.compat joiner) ≡ 0
  lead-joiner plain = ap (lead p) plain.compat ∙ ap (λ k. cond (not (k == 0)) 1 0) plain.class
