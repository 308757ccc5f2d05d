-- Text from a normalization boundary on (UAX #15, section 9), after any text.
use Rattle.std.proofs.Common.{◌≡◌, ℕ, true, List, [], ◌∷◌, ◌++◌, length, refl, sym, ap, ◌∙◌, subst, arith, encode_utf8_all, length-append}
use Rattle.std.proofs.lemmas.Bool.{or_left}
use Rattle.std.proofs.lemmas.Str.{encodes-append}
use Rattle.nf_forms.specs.Properties.{Properties}
use Rattle.nf_forms.specs.declared.form.Form.{Form}
use Rattle.nf_forms.specs.declared.form.Form.TheVariants.{Nfkd}
use Rattle.nf_forms.specs.Front.{front}
use Rattle.nf_forms.specs.Runs.{has_starter}
use Rattle.nf_forms.specs.Sound.{is_sound}
use Rattle.nf_forms.specs.Boundary.{IsBoundary}
use Rattle.nf_forms.specs.Forms.{row_of, decomposed, composes, finished, normal_form}
use Rattle.nf_forms.specs.StreamSafe.{stream_safe}
use Rattle.nf_forms.specs.SafeForm.{safe_form}
use Rattle.nf_forms.specs.Segments.{BeginsAtBoundary}
use Rattle.nf_forms.specs.Laws.Sound.{IsSoundText}
use Rattle.nf_forms.specs.Laws.StreamSafe.{decomposed-append}
use Rattle.nf_forms.specs.Laws.Runs.{has_starter-append}
use Rattle.nf_forms.specs.Laws.Front.{front-append_some}
use Rattle.nf_forms.specs.Laws.Boundary.{last_run, run-after, has_starter-arranged}
use Rattle.nf_forms.specs.Laws.Segments.{stream_safe-at_boundary, normal_form-at_boundary, sound-append, sound-segments, HasForm-alone}
use Rattle.nf_pending.specs.StandsAfter.{StandsAfter as PendingStandsAfter}
use Rattle.nf_pending.specs.Laws.After.{stands-after}
use Rattle.nf_normalizer.specs.declared.normalizer.Normalizer.{Normalizer}
use Rattle.nf_normalizer.specs.Settled.{settled, is_usable}
use Rattle.nf_normalizer.specs.Normalizer.{HasTaken, settled_text}
use Rattle.nf_normalizer.specs.Front.{Joins}
use Rattle.nf_normalizer.specs.Laws.Settled.{Extends, stream_safe-extends}

module _ (p : Properties) where
  -- a sound character at a boundary can be used alone
  pub usable-alone : (f : Form) (c : ℕ) → IsBoundary p f c → is_sound p c ≡ true → is_usable p (c ∷ []) ≡ true
  unfolding is_usable
  usable-alone f c boundary own = sound-segments p f [] (c ∷ []) (normal_form f p (c ∷ [])) refl (HasForm-alone p f c boundary own)

  module _ (f : Form) (x : List ℕ) (usable : is_usable p x ≡ true) where
    sound : IsSoundText p (stream_safe p x)
    unfolding is_usable
    sound = usable

    module _ (text more rest : List ℕ) (boundary : BeginsAtBoundary p f text) (is : text ≡ (boundary.first ∷ more) ++ rest) where
      abbrev first : ℕ
      first = boundary.first

      abbrev y : List ℕ
      y = boundary.first ∷ more

      begun : BeginsAtBoundary p f (boundary.first ∷ more)
      begun = record { first = boundary.first; rest = more; text = refl; boundary = boundary.boundary; sound = boundary.sound }

      -- its stream-safe text begins with its first character
      grown : Extends (stream_safe p (boundary.first ∷ [])) (stream_safe p (boundary.first ∷ more))
      grown = stream_safe-extends p (boundary.first ∷ []) more

      safe_is : stream_safe p (boundary.first ∷ more) ≡ boundary.first ∷ grown.more
      safe_is = grown.text ∙ ap (λ l. l ++ grown.more) (HasForm-alone p f boundary.first boundary.boundary boundary.sound).safe

      safe : stream_safe p (x ++ boundary.first ∷ more) ≡ stream_safe p x ++ stream_safe p (boundary.first ∷ more)
      safe = stream_safe-at_boundary p f x (boundary.first ∷ more) sound begun

      begun_safe : BeginsAtBoundary p f (stream_safe p (boundary.first ∷ more))
      begun_safe = record { first = boundary.first; rest = grown.more; text = safe_is; boundary = boundary.boundary; sound = boundary.sound }

      rows_is : (g : Form) → decomposed g p (stream_safe p (boundary.first ∷ more)) ≡ row_of g p boundary.first ++ decomposed g p grown.more
      rows_is g = ap (decomposed g p) safe_is

      pub joins-after : (n : ℕ) → Joins p [] (boundary.first ∷ more) n → Joins p x (boundary.first ∷ more) n
      joins-after n joins = omega (arith, joins, ap length safe, length-append (stream_safe p x) (stream_safe p (boundary.first ∷ more)))

      some : has_starter p (normal_form f p (stream_safe p (boundary.first ∷ more))) ≡ true
      some =
          ap (λ w. has_starter p (finished f p w)) (rows_is f ∙ ap (λ row. row ++ decomposed f p grown.more) boundary.boundary.boundary_before.row)
          ∙ has_starter-arranged p (composes f) boundary.boundary.boundary_before.first (boundary.boundary.boundary_before.rest ++ decomposed f p grown.more) boundary.boundary.boundary_before.starter

      pub settled_text-after : encode_utf8_all (safe_form f p x) ++ settled_text f p (boundary.first ∷ more) ≡ settled_text f p (x ++ boundary.first ∷ more)
      unfolding settled safe_form
      settled_text-after =
          sym (encodes-append (safe_form f p x) (front p (safe_form f p (boundary.first ∷ more))))
          ∙ ap encode_utf8_all (sym (
          ap (λ l. front p (normal_form f p l)) safe ∙ ap (front p) (normal_form-at_boundary p f (stream_safe p x) (stream_safe p (boundary.first ∷ more)) begun_safe)
          ∙ front-append_some p (normal_form f p (stream_safe p x)) (normal_form f p (stream_safe p (boundary.first ∷ more))) some))

      -- the whole forms stand one after the other
      pub safe_form-after : encode_utf8_all (safe_form f p x) ++ encode_utf8_all (safe_form f p (boundary.first ∷ more)) ≡ encode_utf8_all (safe_form f p (x ++ boundary.first ∷ more))
      unfolding safe_form
      safe_form-after =
          sym (encodes-append (safe_form f p x) (safe_form f p (boundary.first ∷ more)))
          ∙ ap encode_utf8_all (sym (ap (normal_form f p) safe ∙ normal_form-at_boundary p f (stream_safe p x) (stream_safe p (boundary.first ∷ more)) begun_safe))

      pub usable_both : is_usable p (boundary.first ∷ more) ≡ true → is_usable p (x ++ boundary.first ∷ more) ≡ true
      unfolding is_usable
      usable_both all = subst (IsSoundText p) (sym safe) (sound-append p f (stream_safe p x) (stream_safe p (boundary.first ∷ more)) sound all)

      pub HasTaken-after : (normalizer : Normalizer) → HasTaken f p normalizer (boundary.first ∷ more) → HasTaken f p normalizer (x ++ boundary.first ∷ more)
      HasTaken-after normalizer anew = record {
        usable = usable_both anew.usable;
        form = anew.form;
        plain = anew.plain;
        count = anew.count ∙ sym (ap (last_run p) safe ∙ run-after p (stream_safe p x) (stream_safe p (boundary.first ∷ more)) counts);
        pending = subst (PendingStandsAfter f p normalizer.pending) (sym rows)
            (stands-after f p normalizer.pending (decomposed f p (stream_safe p x)) (decomposed f p grown.more) boundary.first boundary.boundary.boundary_before
            (subst (PendingStandsAfter f p normalizer.pending) (rows_is f) anew.pending));
      }
        where
          counts : has_starter p (decomposed Nfkd p (stream_safe p (boundary.first ∷ more))) ≡ true
          counts = ap (has_starter p) (rows_is Nfkd) ∙ has_starter-append p (p.compat boundary.first) (decomposed Nfkd p grown.more) ∙ or_left _ _ boundary.boundary.counts.some

          rows : decomposed f p (stream_safe p (x ++ boundary.first ∷ more)) ≡ decomposed f p (stream_safe p x) ++ (row_of f p boundary.first ++ decomposed f p grown.more)
          rows = ap (decomposed f p) safe ∙ decomposed-append p f (stream_safe p x) (stream_safe p (boundary.first ∷ more)) ∙ ap (λ w. decomposed f p (stream_safe p x) ++ w) (rows_is f)
