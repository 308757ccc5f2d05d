-- What reading a source answers, to its end or to the first place or fault in what it gives.
use Rattle.std.specs.Prelude.{◌≡◌, ℕ, ◌+◌, ◌≤◌, ◌↔◌, ◌^◌, List, [], ◌++◌, length, Option, Some, None, IsTrue, IsFalse, Result, Err, ◌∷◌}
use Rattle.std.specs.Io.KnownBytes.{Consumes, IsAtEnd}
use Rattle.nf_utf8.specs.Reading.{ending_of}
use Rattle.nf_filter.specs.declared.fault.Fault.{Fault}
use Rattle.nf_filter.specs.declared.fault.Fault.TheVariants.{TooLong, Read}
use Rattle.nf_filter.specs.Kinds.{too_long, read, row, ill_formed, cut, unassigned, IsAmong}
use Rattle.nf_filter.specs.Devices.{SourceState}
use Rattle.nf_filter.specs.Faults.{answer_at_end}

-- what is asked of bytes, the first of which has the offset `base`: the answer that they decide, whatever follows them, and
-- what they are worth where they are all and decide none
pub record Survey (T : Type 0) : Type 0 where
  pub base : ℕ
  pub decision : List ℕ → Option (Result T Fault)
  pub value : List ℕ → T

-- `decision` is the answer that bytes decide, whatever follows them, and `value` what they are worth where they are
-- all and decide none; at most `most` bytes are asked for at once
pub record Surveys {T : Type 0} (most base : ℕ) (decision : List ℕ → Option (Result T Fault)) (value : List ℕ → T) (source left : SourceState) (result : Result T Fault) : Type 0 where
  -- the pieces that the source gave: those before the last decide nothing
  pub before : List ℕ
  pub last : List ℕ
  pub given : Consumes source.coming left.coming (before ++ last)
  pub few : length last ≤ most
  -- at its end the source has nothing left
  pub read_out : IsTrue left.is_at_end → IsAtEnd left.coming
  pub undecided : decision before ≡ None
  -- the last piece is too long to be looked at, or there is none: the source failed, or is at its end
  pub too_long : (result ≡ Err TooLong) ↔ (2 ^ 64 ≤ base + length before + length last)
  pub failed : result ≡ Err Read → last ≡ []
  pub ended : IsTrue left.is_at_end → (last ≡ []) × (result ≡ answer_at_end base (value before) (ending_of before))
  -- or else it decides
  pub decided : IsFalse left.is_at_end → ¬ (result ≡ Err TooLong) → ¬ (result ≡ Err Read) → decision (before ++ last) ≡ Some result

-- the faults of it
abbrev pub IsOfSurvey : Fault → Type 0
IsOfSurvey = IsAmong (too_long ∷ read ∷ row ∷ ill_formed ∷ cut ∷ [])

-- those of bytes that were taken
abbrev pub IsOfBytes : Fault → Type 0
IsOfBytes = IsAmong (too_long ∷ row ∷ ill_formed ∷ unassigned ∷ [])

-- the input ended inside a character
abbrev pub IsCut : Fault → Type 0
IsCut = IsAmong (cut ∷ [])
