-- Whether a whole text in memory is in the Stream-Safe Text Format, or in a normalization form as well.
use Rattle.std.specs.Prelude.{◌≡◌, ◌==◌, ◌%◌, ◌⊎◌, ◌&&◌, nat_le, false, if◌then◌else◌, Bool, ℕ, List, [], ◌∷◌, ◌++◌, length, Option, Some, None, Result, Ok, Err, IfErr}
use Rattle.nf_forms.specs.Ucd.{ucd}
use Rattle.nf_forms.specs.declared.form.Form.{Form}
use Rattle.nf_utf8.specs.Reading.{ending_of}
use Rattle.nf_safe.specs.declared.place.Place.{Place}
use Rattle.nf_filter.specs.declared.fault.Fault.{Fault}
use Rattle.nf_filter.specs.Kinds.{ill_formed, cut, unassigned, IsAmong}
use Rattle.nf_filter.specs.Devices.{SourceState}
use Rattle.nf_filter.specs.Faults.{answer_at_end}
use Rattle.nf_filter.specs.Checks.{check_decision, no_place}
use Rattle.nf_normalized.specs.Change.{form_decision, form_value}
use Rattle.nf_c.specs.declared.checking.Text.{Text}
use Rattle.nf_c.specs.declared.moved.Moved.{Moved}
use Rattle.nf_c.specs.declared.status.Status.{Status}
use Rattle.nf_c.specs.declared.status.Status.TheVariants.{Done, NoForm, NoPolicy, Unsafe, NotNormalized}
use Rattle.nf_c.specs.Moved.{moved as moved_by, ended}

-- a text that is still to be read
abbrev pub state_of : Text → SourceState
state_of text = record { coming = Some text.rest.now; is_failed = false; is_at_end = text.ended; lender = 0 }

-- how the answer to a text of so many bytes is told, and a place by this status
abbrev pub checked : Status → Result (Option Place) Fault → ℕ → Moved
checked found (Ok None) len = moved_by Done len 0
checked found (Ok (Some place)) len = record { status = found; read = 0; written = 0; at = place.bytes; start = place.bytes }
checked found (Err fault) len = ended (Some fault) 0 0

-- `decision` is the answer that bytes decide, whatever follows them, and `value` what they are worth where they are all and
-- decide none: a front of the input decides the answer; or all of it does not, and then it is that of the end
pub record ChecksBy (decision : List ℕ → Option (Result (Option Place) Fault)) (value : List ℕ → Option Place) (found : Status) (IsOfKind : Fault → Type 0) (input : List ℕ) (moved : Moved) : Type 0 where
  pub answer : Result (Option Place) Fault
  pub is : moved ≡ checked found answer (length input)
  pub among : IfErr answer IsOfKind
  pub front : List ℕ
  pub rest : List ℕ
  pub looked_at : input ≡ front ++ rest
  pub decided : (decision front ≡ Some answer) ⊎ ((decision input ≡ None) × (answer ≡ answer_at_end 0 (value input) (ending_of input)))

-- faults that a text may have; no character of Unicode's data is unsound
abbrev pub IsOfCheck : Fault → Type 0
IsOfCheck = IsAmong (ill_formed ∷ cut ∷ [])

abbrev pub Checks : List ℕ → Moved → Type 0
Checks = ChecksBy (check_decision ucd 0) no_place Unsafe IsOfCheck

-- and of one that is to be in a form
abbrev pub IsOfFormCheck : Fault → Type 0
IsOfFormCheck = IsAmong (ill_formed ∷ cut ∷ unassigned ∷ [])

abbrev pub ChecksForm : Bool → Form → List ℕ → Moved → Type 0
ChecksForm assigned f = ChecksBy (form_decision assigned f 0) (form_value f 0) NotNormalized IsOfFormCheck

-- whether numbers name a form and a policy that replaces nothing
abbrev pub check_form_status : ℕ → ℕ → Status
check_form_status form policy = if nat_le 1 form && nat_le form 4 then (if nat_le policy 3 && policy % 2 == 0 then Done else NoPolicy) else NoForm
