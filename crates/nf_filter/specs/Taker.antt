-- What becomes of a text that is taken piece by piece.
use Rattle.std.specs.Prelude.{◌≡◌, Bool, false, ℕ, ◌+◌, ◌-◌, ◌≤◌, List, [], ◌++◌, length, chars, Option, Some, None, option_map, Result, Ok, Err}
use Rattle.std.specs.Borrow.{Bor}
use Rattle.nf_utf8.specs.Left.{IsLeft}
use Rattle.nf_utf8.specs.Reading.{text_of, ending_of}
use Rattle.nf_utf8.specs.Subpart.{IsSubpart}
use Rattle.nf_filter.specs.declared.fault.Fault.{Fault}
use Rattle.nf_filter.specs.declared.reading.Reading.{Reading}
use Rattle.nf_filter.specs.Faults.{bad_byte}
use Rattle.nf_filter.specs.Surveys.{Survey}

-- the text x decides this, whatever follows. `decides` says what a text decides.
abbrev pub Decides : {T : Type 0} → (List ℕ → Option (Result T Fault)) → List ℕ → Result T Fault → Type 0
Decides decides x answer = (more : List ℕ) → decides (x ++ more) ≡ Some answer

-- the text x was taken, or what it decides is told. `stands` says that a text was taken.
abbrev pub TakesText : {T : Type 0} → (List ℕ → Type 0) → (List ℕ → Option (Result T Fault)) → List ℕ → Option (Result T Fault) → Type 0
TakesText stands decides x None = stands x
TakesText stands decides x (Some answer) = Decides decides x answer

-- after x a front of the text was taken; `rest` is what stands after that
pub record HasTakenFront (stands : List ℕ → Type 0) (x text rest : List ℕ) : Type 0 where
  pub front : List ℕ
  pub is_front : chars text ≡ front ++ chars rest
  pub taken : stands (x ++ front)

-- so it was, or what the text decides is told
abbrev pub TakesFront : {T : Type 0} → (List ℕ → Type 0) → (List ℕ → Option (Result T Fault)) → List ℕ → List ℕ → Result (Bor (List ℕ)) (Result T Fault) → Type 0
TakesFront stands decides x text (Ok rest) = HasTakenFront stands x text rest.now
TakesFront stands decides x text (Err answer) = Decides decides (x ++ chars text) answer

-- what the text of the bytes decides, or else their first ill-formed byte; the first byte has the offset `base`
abbrev pub decided_or : {T : Type 0} → Option (Result T Fault) → Option Fault → Option (Result T Fault)
decided_or (Some answer) fault = Some answer
decided_or None fault = option_map Err fault

abbrev pub decided_in : {T : Type 0} → (List ℕ → Option (Result T Fault)) → ℕ → List ℕ → Option (Result T Fault)
decided_in decides base bytes = decided_or (decides (text_of bytes)) (bad_byte base (ending_of bytes))

-- of the bytes, the first of which has the offset `base`, all but `rest` were read: they gave the text x, but for those of a
-- begun character
pub record HasRead (replace : Bool) (base : ℕ) (reading : Reading) (bytes rest x : List ℕ) : Type 0 where
  pub n : ℕ
  pub left : IsLeft replace bytes x n (reading.decoder ++ rest)
  pub begun : IsSubpart reading.decoder
  pub offset : reading.offset ≡ base + n + length reading.decoder

-- of the bytes all but `rest` were read, and what they gave was taken
pub record ReadsText (stands : List ℕ → Type 0) (base : ℕ) (reading : Reading) (bytes rest : List ℕ) : Type 0 where
  pub before : List ℕ
  pub read : HasRead false base reading bytes rest before
  pub taken : stands before

-- so they were, or what the bytes decide is told
abbrev pub ReadsOn : {T : Type 0} → (List ℕ → Type 0) → (List ℕ → Option (Result T Fault)) → ℕ → Reading → List ℕ → List ℕ → Option (Result T Fault) → Type 0
ReadsOn stands decides base reading bytes rest None = ReadsText stands base reading bytes rest
ReadsOn stands decides base reading bytes rest (Some answer) = decided_in decides base bytes ≡ Some answer

-- what it has taken ends before the bytes of a begun character
pub record IsReady (ends_at : ℕ → Type 0) (reading : Reading) : Type 0 where
  pub held : length reading.decoder ≤ reading.offset
  pub end : ends_at (reading.offset - length reading.decoder)

-- the bytes were read, and what is asked of them is what they decide, or else what their text comes to
pub record HasSurveyed {T : Type 0} (stands : List ℕ → Type 0) (decided : List ℕ → Option (Result T Fault)) (value : List ℕ → T) (survey : Survey T) (reading : Reading) (bytes : List ℕ) : Type 0 where
  pub reads : ReadsText stands survey.base reading bytes []
  pub decides : (bytes : List ℕ) → survey.decision bytes ≡ decided_in decided survey.base bytes
  pub worth : (bytes : List ℕ) → survey.value bytes ≡ value (text_of bytes)
  pub undecided : survey.decision bytes ≡ None
