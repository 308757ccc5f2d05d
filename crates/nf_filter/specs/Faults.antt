-- The fault at which the reading of bytes stops (The Unicode Standard, section 3.9; UAX #15, section 13).
use Rattle.std.specs.Prelude.{true, false, Bool, ℕ, ◌+◌, ◌==◌, List, length, Option, Some, None, Result, Ok, Err, if◌then◌else◌, [], ◌∷◌}
use Rattle.nf_forms.specs.Properties.{Properties}
use Rattle.nf_utf8.specs.Ending.{Ending, Whole, Bad, Cut}
use Rattle.nf_utf8.specs.Reading.{ending_of}
use Rattle.nf_filter.specs.declared.fault.Fault.{Fault}
use Rattle.nf_filter.specs.declared.fault.Fault.TheVariants.{Row, BadByte, Cut as CutShort, Unassigned}
use Rattle.nf_filter.specs.declared.policy.Policy.{Policy}
use Rattle.nf_filter.specs.Kinds.{spent, too_long, write, row, ill_formed, cut, unassigned, IsAmong}
use Rattle.nf_filter.specs.Policy.{text_under, len_under, allowed}
use Rattle.nf_filter.specs.Settled.{is_usable, usable}

-- that of an ending, where the first byte has the offset `base`
abbrev pub bad_byte : ℕ → Ending → Option Fault
bad_byte base Whole = None
bad_byte base (Bad at start) = Some (BadByte (base + at) (base + start))
bad_byte base (Cut at start) = None

-- the answer at the end of the bytes, the first of which has the offset `base`, by their ending: a begun character is a
-- fault
abbrev pub answer_at_end : {T : Type 0} → ℕ → T → Ending → Result T Fault
answer_at_end base value Whole = Ok value
answer_at_end base value (Bad at start) = Ok value
answer_at_end base value (Cut at start) = Err (CutShort (base + at) (base + start))

-- that of a bad byte, unless it is replaced
abbrev pub bad_under : Bool → ℕ → List ℕ → Option Fault
bad_under false base bytes = bad_byte base (ending_of bytes)
bad_under true base bytes = None

-- at the first character of a text that is not taken, or else another; `place` tells where what stands after a front of
-- it begins
abbrev pub first_fault : Bool → Properties → (List ℕ → ℕ) → List ℕ → Option Fault → Option Fault
first_fault false p place x other = if is_usable p x then other else Some (Row (place (usable p x)))
first_fault true p place x other = if is_usable p (allowed true p x)
    then (if length (allowed true p x) == length x then other else Some (Unassigned (place (allowed true p x))))
    else Some (Row (place (usable p (allowed true p x))))

-- at the first character that is not taken, or else at the first ill-formed byte
unfoldable pub fault_in : Policy → Properties → ℕ → List ℕ → Option Fault
fault_in policy p base bytes = first_fault policy.assigned p (λ front. base + len_under policy.replace bytes front) (text_under policy.replace bytes) (bad_under policy.replace base bytes)

-- the faults of taking a character
abbrev pub IsOfTaking : Fault → Type 0
IsOfTaking = IsAmong (write ∷ row ∷ unassigned ∷ [])

-- those of reading a piece
abbrev pub IsOfReading : Fault → Type 0
IsOfReading = IsAmong (write ∷ row ∷ ill_formed ∷ unassigned ∷ [])

-- those of the end of all bytes
abbrev pub IsOfClosing : Fault → Type 0
IsOfClosing = IsAmong (write ∷ row ∷ cut ∷ unassigned ∷ [])

-- the faults of feeding a piece
abbrev pub IsOfFeeding : Fault → Type 0
IsOfFeeding = IsAmong (spent ∷ too_long ∷ write ∷ row ∷ ill_formed ∷ unassigned ∷ [])

-- those of finishing
abbrev pub IsOfFinishing : Fault → Type 0
IsOfFinishing = IsAmong (spent ∷ write ∷ row ∷ cut ∷ unassigned ∷ [])
