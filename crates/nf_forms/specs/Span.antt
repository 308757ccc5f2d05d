-- A span: own boundaries, and after each of them marks that stay where they stand, or starters that count as
-- marks. Its form is itself, whatever stands before it: what the quick check tells of a text (UAX #15, section 9), over any
-- character data.
use Rattle.std.specs.Prelude.{◌≡◌, ◌<◌, ◌≤◌, ◌+◌, ◌⊎◌, ℕ, true, false, List, [], ◌∷◌, length}
use Rattle.nf_forms.specs.Properties.{Properties, is_starter}
use Rattle.nf_forms.specs.Runs.{has_starter, trail}
use Rattle.nf_forms.specs.declared.form.Form.{Form}
use Rattle.nf_forms.specs.Forms.{normal_form}
use Rattle.nf_forms.specs.StreamSafe.{max_run}
use Rattle.nf_forms.specs.Boundary.{NeverSecond, HasBoundaryBefore, IsOwnBoundary}

-- a non-starter of class k that is its own canonical and compatibility row
pub record IsMark (p : Properties) (c k : ℕ) : Type 0 where
  pub class : p.class c ≡ k
  pub above : 0 < k
  pub canonical : p.canonical c ≡ c ∷ []
  pub compat : p.compat c ≡ c ∷ []

-- c is an own boundary, and after it NFKD ends in at most `count` non-starters
pub record BeginsRun (p : Properties) (f : Form) (c count : ℕ) : Type 0 where
  pub own_boundary : IsOwnBoundary p f c
  pub counted : trail p (p.compat c) ≤ count
  pub room : count ≤ max_run

-- c is a mark that stays after marks of class k and smaller ones, where NFKD ends in at most n non-starters; with it
-- the greatest class is `class`, and NFKD ends in at most `count`
pub record StaysAfter (p : Properties) (f : Form) (k n c class count : ℕ) : Type 0 where
  pub mark : IsMark p c class
  pub never_second : NeverSecond p f c
  pub ordered : k ≤ class
  pub counted : n + 1 ≤ count
  pub room : count ≤ max_run

-- c is a starter whose form alone is itself, as U+FF9E is in NFC, but NFKD has non-starters alone of it: after at most n it
-- ends in at most `count` with them
pub record CountsOn (p : Properties) (f : Form) (n c count : ℕ) : Type 0 where
  pub starts : is_starter p c ≡ true
  pub boundary_before : HasBoundaryBefore p f c
  pub alone : normal_form f p (c ∷ []) ≡ c ∷ []
  pub some : 0 < length (p.compat c)
  pub none : has_starter p (p.compat c) ≡ false
  pub counted : n + length (p.compat c) ≤ count
  pub room : count ≤ max_run

-- one character more: no mark at the end was of a class above k, and NFKD ended in at most n non-starters; now so for
-- `class` and `count`
abbrev pub GoesOn : Properties → Form → ℕ → ℕ → ℕ → ℕ → ℕ → Type 0
GoesOn p f k n c class count = BeginsRun p f c count ⊎ (StaysAfter p f k n c class count ⊎ CountsOn p f n c count)

-- each character of cs in turn, from k and n to `class` and `count`
abbrev pub IsSpanFrom : Properties → Form → ℕ → ℕ → List ℕ → ℕ → ℕ → Type 0
IsSpanFrom p f k n [] class count = (k ≡ class) × (n ≡ count)
IsSpanFrom p f k n (c ∷ cs) class count = (next : ℕ) × (more : ℕ) × GoesOn p f k n c next more × IsSpanFrom p f next more cs class count

-- after a full run only an own boundary can come, so a span begins with one
abbrev pub IsSpan : Properties → Form → List ℕ → ℕ → ℕ → Type 0
IsSpan p f cs class count = IsSpanFrom p f 0 max_run cs class count
