-- What a step makes of a text.
use Rattle.std.specs.Prelude.{◌≡◌, ◌<◌, ◌≤◌, ℕ, List, ◌++◌, length, chars}
use Rattle.nf_forms.specs.Properties.{Properties}
use Rattle.nf_forms.specs.declared.form.Form.{Form}
use Rattle.nf_normalizer.specs.declared.normalizer.Normalizer.{Normalizer}
use Rattle.nf_normalizer.specs.declared.step.Step.{Step}
use Rattle.nf_normalizer.specs.declared.step.Step.TheVariants.{Taken, Unsound}
use Rattle.nf_normalizer.specs.Front.{Leaves, Refuses, StepsTo}
use Rattle.nf_normalizer.specs.Normalizer.{IsWithin}
use Rattle.nf_normalizer.specs.Room.{Start}
pub use Rattle.nf_normalizer.specs.Front.{Stands}

-- something is left of the text
pub record StopsIn (text rest : List ℕ) : Type 0 where
  pub front : List ℕ
  pub is_front : chars text ≡ front ++ chars rest
  pub some : 0 < length rest
  pub left : length rest ≤ length text

-- a front of the text is past, unless the rest is refused
abbrev pub StepsPast : List ℕ → Step → Type 0
StepsPast text (Taken same rest put) = Leaves text rest.now put
StepsPast text (Unsound rest) = StopsIn text rest.now

abbrev pub StaysWithin : Normalizer → Step → Type 0
StaysWithin normalizer (Taken same rest put) = IsWithin normalizer
StaysWithin normalizer (Unsound rest) = Unit {0}

-- a front of the text was taken, and the first character after it cannot be used
pub record RefusesRest (f : Form) (p : Properties) (start : Start) (room x text rest : List ℕ) : Type 0 where
  pub front : List ℕ
  pub is_front : chars text ≡ front ++ chars rest
  pub refuses : Refuses f p start room (x ++ front) rest

-- a step after x
abbrev pub Steps : Form → Properties → Normalizer → Start → List ℕ → List ℕ → List ℕ → List ℕ → Step → Type 0
Steps f p normalizer start room formed x text (Taken same rest put) =
    StepsTo f p normalizer start (room ++ (same.now ++ formed)) x text rest.now put
Steps f p normalizer start room formed x text (Unsound rest) = RefusesRest f p start room x text rest.now
