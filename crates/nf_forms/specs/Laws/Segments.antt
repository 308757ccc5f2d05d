-- Text from one normalization boundary to another: two such texts side by side, and such a text after any other.
use Rattle.std.proofs.Common.{◌≡◌, ℕ, true, List, [], ◌∷◌, ◌++◌, refl, sym, ap, subst, ◌∙◌, arith}
use Rattle.std.proofs.lemmas.Bool.{and_from}
use Rattle.std.proofs.lemmas.List.Folds.{list_all-append}
use Rattle.nf_forms.specs.Properties.{Properties}
use Rattle.nf_forms.specs.declared.form.Form.{Form}
use Rattle.nf_forms.specs.declared.form.Form.TheVariants.{Nfkd}
use Rattle.nf_forms.specs.Forms.{normal_form}
use Rattle.nf_forms.specs.StreamSafe.{stream_safe}
use Rattle.nf_forms.specs.SafeForm.{safe_form}
use Rattle.nf_forms.specs.Sound.{is_sound}
use Rattle.nf_forms.specs.Boundary.{IsBoundary}
use Rattle.nf_forms.specs.Segments.{BeginsAtBoundary, HasForm}
use Rattle.nf_forms.specs.Laws.Sound.{IsSoundText}
use Rattle.nf_forms.specs.Laws.StreamSafe.{trail-stream_safe-le}
use Rattle.nf_forms.specs.Laws.Boundary.{safe_step-room, stream_safe-boundary, normal_form-boundary}

module _ (p : Properties) (f : Form) where
  -- the count is reset at a boundary, so the stream-safe text is cut there
  pub stream_safe-at_boundary : (x y : List ℕ) → IsSoundText p (stream_safe p x) → BeginsAtBoundary p f y → stream_safe p (x ++ y) ≡ stream_safe p x ++ stream_safe p y
  stream_safe-at_boundary x y sound begins =
      subst (λ k. stream_safe p (x ++ k) ≡ stream_safe p x ++ stream_safe p k) (sym begins.text)
      (stream_safe-boundary p begins.first begins.boundary.counts x begins.rest (trail-stream_safe-le p Nfkd x sound))

  pub normal_form-at_boundary : (x y : List ℕ) → BeginsAtBoundary p f y → normal_form f p (x ++ y) ≡ normal_form f p x ++ normal_form f p y
  normal_form-at_boundary x y begins =
      subst (λ k. normal_form f p (x ++ k) ≡ normal_form f p x ++ normal_form f p k) (sym begins.text)
      (normal_form-boundary p f begins.first begins.boundary.boundary_before x begins.rest)

  pub sound-append : (x y : List ℕ) → IsSoundText p x → IsSoundText p y → IsSoundText p (x ++ y)
  sound-append x y first second = list_all-append (is_sound p) x y ∙ and_from _ _ first second

  -- after a text comes one that begins at a boundary
  pub HasForm-append : (a b formed more : List ℕ) → HasForm p f a formed → HasForm p f b more → HasForm p f (a ++ b) (formed ++ more)
  HasForm-append a b formed more first second = record {
    begins = record {
      first = first.begins.first;
      rest = first.begins.rest ++ b;
      text = ap (λ k. k ++ b) first.begins.text;
      boundary = first.begins.boundary;
      sound = first.begins.sound;
    };
    sound = sound-append a b first.sound second.sound;
    safe = stream_safe-at_boundary a b (subst (IsSoundText p) (sym first.safe) first.sound) second.begins
        ∙ ap (λ k. k ++ stream_safe p b) first.safe ∙ ap (λ k. a ++ k) second.safe;
    form = normal_form-at_boundary a b second.begins ∙ ap (λ k. k ++ normal_form f p b) first.form ∙ ap (λ k. formed ++ k) second.form;
  }

  -- whatever stands before it
  module _ (x cs formed : List ℕ) (sound : IsSoundText p (stream_safe p x)) (here : HasForm p f cs formed) where
    pub stream_safe-segments : stream_safe p (x ++ cs) ≡ stream_safe p x ++ cs
    stream_safe-segments = stream_safe-at_boundary x cs sound here.begins ∙ ap (λ k. stream_safe p x ++ k) here.safe

    pub sound-segments : IsSoundText p (stream_safe p (x ++ cs))
    sound-segments = subst (IsSoundText p) (sym stream_safe-segments) (sound-append (stream_safe p x) cs sound here.sound)

    pub safe_form-segments : safe_form f p (x ++ cs) ≡ safe_form f p x ++ formed
    unfolding safe_form
    safe_form-segments =
        ap (normal_form f p) stream_safe-segments ∙ normal_form-at_boundary (stream_safe p x) cs here.begins
        ∙ ap (λ k. normal_form f p (stream_safe p x) ++ k) here.form

  -- a character at a boundary, alone and after any text
  module _ (c : ℕ) (boundary : IsBoundary p f c) (own : is_sound p c ≡ true) where
    pub HasForm-alone : HasForm p f (c ∷ []) (normal_form f p (c ∷ []))
    HasForm-alone = record {
      begins = record { first = c; rest = []; text = refl; boundary = boundary; sound = own };
      sound = and_from _ _ own refl;
      safe = let none = boundary.counts.lead in safe_step-room p [] c (omega arith);
      form = refl;
    }
