-- Segments whose form is known: nothing, a span, and a character whose form is its row.
use Rattle.std.proofs.Common.{subst, ◌≡◌, ℕ, ◌≤◌, ◌+◌, Bool, true, false, not, cond, List, [], ◌∷◌, ◌++◌, length, refl, sym, ap, ◌∙◌, arith, append-nil}
use Rattle.std.proofs.lemmas.Bool.{and_parts, or_left}
use Rattle.nf_forms.specs.Properties.{Properties, is_starter}
use Rattle.nf_forms.specs.Runs.{has_starter, lead}
use Rattle.nf_forms.specs.Ordering.{is_ordered}
use Rattle.nf_forms.specs.declared.form.Form.{Form}
use Rattle.nf_forms.specs.declared.form.Form.TheVariants.{Nfc, Nfd, Nfkc, Nfkd}
use Rattle.nf_forms.specs.Forms.{row_of, composes, arranged, normal_form}
use Rattle.nf_forms.specs.StreamSafe.{max_run}
use Rattle.nf_forms.specs.SafeForm.{safe_form}
use Rattle.nf_forms.specs.Sound.{is_sound}
use Rattle.nf_forms.specs.Boundary.{HasBoundaryBefore, ResetsCount, IsBoundary, IsOwnBoundary}
use Rattle.nf_forms.specs.Span.{IsSpanFrom, IsSpan}
use Rattle.nf_forms.specs.Segments.{HasForm}
use Rattle.nf_forms.specs.Laws.Ordering.{order-ordered}
use Rattle.nf_forms.specs.Laws.Sound.{IsSound, IsSound-from_test, IsSoundText}
use Rattle.nf_forms.specs.Laws.Segments.{HasForm-alone}
use Rattle.nf_forms.specs.Laws.Span.{span-begins, safe_form-span_alone}

module _ (p : Properties) where
  pub record BeginsInStarter (w : List ℕ) : Type 0 where
    pub first : ℕ
    pub rest : List ℕ
    pub text : w ≡ first ∷ rest
    pub starter : is_starter p first ≡ true

  -- what begins with no mark begins with a starter
  pub begins_in_starter : (w : List ℕ) → 1 ≤ length w → lead p w ≡ 0 → BeginsInStarter w
  begins_in_starter [] some none = absurd (omega arith)
  begins_in_starter (a ∷ w) some none = record { first = a; rest = w; text = refl; starter = next (is_starter p a) (lead p w) none }
    where
      next : (b : Bool) (n : ℕ) → cond (not b) (1 + n) 0 ≡ 0 → b ≡ true
      next true n e = refl
      next false n e = absurd (omega arith)

module _ (p : Properties) (f : Form) where
  pub own_boundary-boundary : (c : ℕ) → IsOwnBoundary p f c → IsBoundary p f c
  own_boundary-boundary c own_boundary = record { boundary_before = own_boundary.boundary_before; counts = own_boundary.counts }

  -- ---- a span

  span_from-front : (k n : ℕ) (xs ys : List ℕ) (class count : ℕ) → IsSpanFrom p f k n (xs ++ ys) class count → (k' : ℕ) × (n' : ℕ) × IsSpanFrom p f k n xs k' n'
  span_from-front k n [] ys class count span = (k, n, (refl, refl))
  span_from-front k n (c ∷ xs) ys class count span =
      let rest = span_from-front span.0 span.1 xs ys class count span.3 in
      (rest.0, rest.1, (span.0, span.1, span.2, rest.2))

  pub span-front : (xs ys : List ℕ) (class count : ℕ) → IsSpan p f (xs ++ ys) class count → (k : ℕ) × (n : ℕ) × IsSpan p f xs k n
  span-front xs ys class count span = span_from-front 0 max_run xs ys class count span

  pub HasForm-span : (c : ℕ) (cs : List ℕ) (class count : ℕ) → IsSpan p f (c ∷ cs) class count → IsSoundText p (c ∷ cs) → HasForm p f (c ∷ cs) (c ∷ cs)
  unfolding safe_form
  HasForm-span c cs class count span sound =
      let alone = safe_form-span_alone p f (c ∷ cs) class count span in
      record {
        begins = record {
          first = c;
          rest = cs;
          text = refl;
          boundary = own_boundary-boundary c (span-begins p f c cs class count span);
          sound = (and_parts (is_sound p c) _ sound).0;
        };
        sound = sound;
        safe = alone.0;
        form = ap (normal_form f p) (sym alone.0) ∙ alone.1;
      }

  -- ---- one character

  pub resets_count-lead : (c : ℕ) → is_sound p c ≡ true → lead p (p.compat c) ≡ 0 → ResetsCount p c
  resets_count-lead c sound none =
      let begins = begins_in_starter p (p.compat c) (IsSound-from_test p c sound).compat_some none in
      record { lead = none; some = ap (has_starter p) begins.text ∙ or_left _ _ begins.starter }

  -- where the form does not compose, a text may be cut before each sound character whose compatibility row begins with a
  -- starter
  pub boundary-decomposing : composes f ≡ false → (c : ℕ) → is_sound p c ≡ true → lead p (p.compat c) ≡ 0 → IsBoundary p f c
  boundary-decomposing plain c sound none = record { boundary_before = boundary_before f plain; counts = resets_count-lead c sound none }
    where
      parts : IsSound p c
      parts = IsSound-from_test p c sound

      canonical : BeginsInStarter p (p.canonical c)
      canonical = begins_in_starter p (p.canonical c) parts.canonical_some (omega (arith, parts.lead_within))

      compat : BeginsInStarter p (p.compat c)
      compat = begins_in_starter p (p.compat c) parts.compat_some none

      boundary_before : (f : Form) → composes f ≡ false → HasBoundaryBefore p f c
      boundary_before Nfc plain = cc
      boundary_before Nfd plain = record { first = canonical.first; rest = canonical.rest; row = canonical.text; starter = canonical.starter; never_second = λ is. cc }
      boundary_before Nfkc plain = cc
      boundary_before Nfkd plain = record { first = compat.first; rest = compat.rest; row = compat.text; starter = compat.starter; never_second = λ is. cc }

  -- and there the form of a character whose row is in order is that row
  pub HasForm-row : composes f ≡ false → (c : ℕ) → IsBoundary p f c → is_sound p c ≡ true → is_ordered p (row_of f p c) ≡ true → HasForm p f (c ∷ []) (row_of f p c)
  HasForm-row plain c boundary sound ordered =
      subst (HasForm p f (c ∷ []))
      (ap (λ row. arranged (composes f) p row) (append-nil (row_of f p c)) ∙ ap (λ b. arranged b p (row_of f p c)) plain ∙ order-ordered p (row_of f p c) ordered)
      (HasForm-alone p f c boundary sound)
