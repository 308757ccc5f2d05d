-- Where a checker of a form stands.
use Rattle.std.specs.Prelude.{◌≡◌, ℕ, ◌+◌, Bool, List, Option, Some, None, Result, Ok, Err, ◌∷◌, [], length}
use Rattle.nf_forms.specs.declared.form.Form.{Form}
use Rattle.nf_safe.specs.declared.place.Place.{Place}
use Rattle.nf_filter.specs.declared.fault.Fault.{Fault}
use Rattle.nf_filter.specs.declared.filter.State.{State}
use Rattle.nf_filter.specs.Filter.{state_of, base_of, offset_of}
use Rattle.nf_filter.specs.Surveys.{Survey}
use Rattle.nf_filter.specs.Kinds.{spent, too_long, read, ill_formed, cut, unassigned, IsAmong}
use Rattle.nf_normalized.specs.declared.checker.FormChecker.{FormChecker}
use Rattle.nf_normalized.specs.Change.{form_decision, form_value}
use Rattle.nf_normalized.specs.Holds.{Holds}

abbrev pub place_of : FormChecker → Option Place
place_of checker = checker.place

abbrev pub filter_state : FormChecker → State
filter_state checker = state_of checker.filter

-- it has taken the bytes, the first of which has the offset `base`, which decide nothing
pub record StandsAfter (assigned : Bool) (f : Form) (base : ℕ) (checker : FormChecker) (bytes : List ℕ) : Type 0 where
  pub none : place_of checker ≡ None
  pub base_is : base_of (filter_state checker) ≡ base
  pub holds : Holds assigned f (filter_state checker) checker.held.items bytes
  pub undecided : form_decision assigned f base bytes ≡ None

-- it has taken some
abbrev pub IsUnderWay : FormChecker → Type 0
IsUnderWay checker = (assigned : Bool) × (f : Form) × (base : ℕ) × (bytes : List ℕ) × StandsAfter assigned f base checker bytes

-- it has taken these, and the place of the form is what is asked of them
pub record HasSurveyed (checker : FormChecker) (survey : Survey (Option Place)) (bytes : List ℕ) : Type 0 where
  pub assigned : Bool
  pub form : Form
  pub stands : StandsAfter assigned form survey.base checker bytes
  pub offset : offset_of (filter_state checker) ≡ survey.base + length bytes
  pub decides : (bytes : List ℕ) → survey.decision bytes ≡ form_decision assigned form survey.base bytes
  pub worth : (bytes : List ℕ) → survey.value bytes ≡ form_value form survey.base bytes

-- what an answer says is decided
abbrev pub decided : Result (Option Place) Fault → Option (Result (Option Place) Fault)
decided (Ok None) = None
decided (Ok (Some place)) = Some (Ok (Some place))
decided (Err fault) = Some (Err fault)

-- the faults of a piece, of the end, and of all that a source gives
abbrev pub IsOfPiece : Fault → Type 0
IsOfPiece = IsAmong (spent ∷ too_long ∷ ill_formed ∷ unassigned ∷ [])

abbrev pub IsOfEnd : Fault → Type 0
IsOfEnd = IsAmong (spent ∷ cut ∷ [])

abbrev pub IsOfText : Fault → Type 0
IsOfText = IsAmong (too_long ∷ read ∷ ill_formed ∷ cut ∷ unassigned ∷ [])
