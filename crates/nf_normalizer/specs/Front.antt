-- What taking a front of a text does, and where a normalizer stands in a text.
use Rattle.std.specs.Prelude.{◌≡◌, ◌+◌, ◌<◌, ◌≤◌, true, false, Bool, ℕ, List, [], ◌∷◌, ◌++◌, ◌⊎◌, length, chars, Result, Ok, Err, if◌then◌else◌, encode_utf8_all}
use Rattle.nf_forms.specs.Properties.{Properties}
use Rattle.nf_forms.specs.declared.form.Form.{Form}
use Rattle.nf_forms.specs.Segments.{BeginsAtBoundary}
use Rattle.nf_forms.specs.StreamSafe.{stream_safe}
use Rattle.nf_forms.specs.SafeForm.{safe_form}
use Rattle.nf_normalizer.specs.declared.normalizer.Normalizer.{Normalizer}
use Rattle.nf_normalizer.specs.declared.front.Front.{Front}
use Rattle.nf_normalizer.specs.declared.front.Unsound.{Unsound}
use Rattle.nf_normalizer.specs.Normalizer.{HasTaken, settled_text}
use Rattle.nf_normalizer.specs.Room.{Start, Holds}
use Rattle.nf_normalizer.specs.Settled.{is_usable}

-- x was taken, and what of it is settled went out or stands in the room
pub record Inside (f : Form) (p : Properties) (normalizer : Normalizer) (start : Start) (room x : List ℕ) : Type 0 where
  pub taken : HasTaken f p normalizer x
  pub holds : Holds start room (settled_text f p x)

-- x was taken, and what comes next begins at a normalization boundary (UAX #15, section 9): so the whole form of x is settled,
-- and the normalizer is as a new one
pub record Between (f : Form) (p : Properties) (normalizer : Normalizer) (start : Start) (room x next : List ℕ) : Type 0 where
  pub anew : HasTaken f p normalizer []
  pub usable : is_usable p x ≡ true
  pub boundary : BeginsAtBoundary p f next
  pub holds : Holds start room (encode_utf8_all (safe_form f p x))

-- after x, before `next`
abbrev pub Stands : Form → Properties → Normalizer → Start → List ℕ → List ℕ → List ℕ → Type 0
Stands f p normalizer start room x next = Inside f p normalizer start room x ⊎ Between f p normalizer start room x next

-- at most one joiner
abbrev pub one_if : Bool → ℕ
one_if joined = if joined then 1 else 0

-- a front of the text is past, of at least one character, with no more than one joiner each; `rest` is what is left
pub record Leaves (text rest : List ℕ) (n : ℕ) : Type 0 where
  pub front : List ℕ
  pub some : 0 < length front
  pub few : n ≤ length front
  pub is_front : chars text ≡ front ++ chars rest
  pub shorter : length rest < length text

abbrev pub Passes : List ℕ → Front → Type 0
Passes text front = Leaves text front.rest.now (one_if front.joined)

-- so many joiners were put in the characters y after x
abbrev pub Joins : Properties → List ℕ → List ℕ → ℕ → Type 0
Joins p x y n = length (stream_safe p (x ++ y)) ≡ length (stream_safe p x) + length y + n

-- a front of the text was taken after x, for which `out` is in the room or comes next
pub record StepsTo (f : Form) (p : Properties) (normalizer : Normalizer) (start : Start) (out x text rest : List ℕ) (n : ℕ) : Type 0 where
  pub front : List ℕ
  pub is_front : chars text ≡ front ++ chars rest
  pub stands : Stands f p normalizer start out (x ++ front) (chars rest)
  pub joins : Joins p x front n

-- its first character cannot be used after x, of which the room holds what is settled
pub record Refuses (f : Form) (p : Properties) (start : Start) (room x text : List ℕ) : Type 0 where
  pub first : ℕ
  pub rest : List ℕ
  pub is_first : chars text ≡ first ∷ rest
  pub usable : is_usable p x ≡ true
  pub unusable : is_usable p (x ++ first ∷ []) ≡ false
  pub holds : Holds start room (settled_text f p x)

-- what is done to a text after x
abbrev pub Takes : Form → Properties → Normalizer → Start → List ℕ → List ℕ → List ℕ → List ℕ → Result Front Unsound → Type 0
Takes f p normalizer start room formed x text (Ok front) =
    StepsTo f p normalizer start (room ++ (front.same.now ++ formed)) x text front.rest.now (one_if front.joined)
Takes f p normalizer start room formed x text (Err _) = Refuses f p start room x text

-- a run of y was taken after x, for which `same` comes next
pub record TakesRun (f : Form) (p : Properties) (normalizer : Normalizer) (start : Start) (room x y same : List ℕ) : Type 0 where
  pub inside : Inside f p normalizer start (room ++ same) (x ++ y)
  pub joins : Joins p x y 0
