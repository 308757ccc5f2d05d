-- How a piece is read for a counted, under a policy.
use Rattle.std.specs.Prelude.{◌≡◌, Bool, false, ℕ, List, ◌++◌, length, Some, None, Result, Err, OnOk}
use Rattle.std.specs.Result.{result_err}
use Rattle.nf_forms.specs.Properties.{Properties}
use Rattle.nf_forms.specs.declared.form.Form.{Form}
use Rattle.nf_filter.specs.declared.fault.Fault.{Fault}
use Rattle.nf_filter.specs.declared.fault.Fault.TheVariants.{Write}
use Rattle.nf_filter.specs.declared.counted.Counted.{Counted}
use Rattle.nf_filter.specs.declared.policy.Policy.{Policy}
use Rattle.nf_filter.specs.declared.reading.Reading.{Reading}
use Rattle.nf_filter.specs.Block.{Start, BlockState, Written, WritesTo}
use Rattle.nf_filter.specs.Faults.{first_fault, fault_in}
use Rattle.nf_filter.specs.Counted.{HasTaken, IsPlacedAt, settled_text}
use Rattle.nf_filter.specs.Stepping.{Standing}
use Rattle.nf_filter.specs.Taker.{HasRead}
use Rattle.nf_filter.specs.Policy.{allowed, text_under}
use Rattle.nf_filter.specs.Settled.{usable}

-- what is settled of a text, as far as that is taken
abbrev pub taken_utf8 : Bool → Form → Properties → List ℕ → List ℕ
taken_utf8 assigned f p x = settled_text f p (usable p (allowed assigned p x))

-- the text x was taken, or why not all of it; `place` tells where what stands after a front of it begins
pub record TakesAllowed (assigned : Bool) (f : Form) (p : Properties) (counted : Counted) (start : Start) (now : BlockState) (place : List ℕ → ℕ) (x : List ℕ)
    (result : Result (Unit {0}) Fault) : Type 0 where
  pub writes : WritesTo start now (taken_utf8 assigned f p x) result
  pub fault : ¬ (result ≡ Err Write) → result_err result ≡ first_fault assigned p place x None
  pub taken : OnOk result (HasTaken f p counted x × (allowed assigned p x ≡ x))

-- what taking the text y, which these bytes gave, comes to after any that was taken
abbrev pub TakesAfter : Bool → Properties → Counted → BlockState → Counted → BlockState → ℕ → List ℕ → List ℕ → Result (Unit {0}) Fault → Type 0
TakesAfter a p old before new now begin bytes y r = (f : Form) (place : List ℕ → ℕ) (x : List ℕ) (start : Start) → HasTaken f p old x → allowed a p x ≡ x → IsPlacedAt place begin bytes 0 x y
    → Written start before (settled_text f p x) → TakesAllowed a f p new start now place (x ++ y) r

-- and what taking it as it is comes to
abbrev pub TakesAsIs : Properties → Counted → BlockState → Counted → BlockState → ℕ → List ℕ → List ℕ → Result (Unit {0}) Fault → Type 0
TakesAsIs p old before new now begin bytes y r = (f : Form) (place : List ℕ → ℕ) (x : List ℕ) (start : Start) → old.chars ≡ length x → Standing f p old start before x y → IsPlacedAt place begin bytes 0 x y
    → TakesAllowed false f p new start now place (x ++ y) r

-- of the bytes, the first of which has the offset `base`, all but `rest` were read, and what they gave was taken
pub record HasReadTo (policy : Policy) (f : Form) (p : Properties) (counted : Counted) (base : ℕ) (reading : Reading) (bytes rest : List ℕ) : Type 0 where
  pub before : List ℕ
  pub read : HasRead policy.replace base reading bytes rest before
  pub taken : HasTaken f p counted before
  pub allowed : allowed policy.assigned p before ≡ before

-- so they were read, and what that settles was written
abbrev pub ReadsTo : Policy → Form → Properties → Counted → Start → BlockState → ℕ → Reading → List ℕ → List ℕ → Type 0
ReadsTo policy f p counted start now base reading bytes rest =
    (read : HasReadTo policy f p counted base reading bytes rest) × Written start now (settled_text f p read.before)

-- or reading them was refused
pub record RefusesBytes (policy : Policy) (f : Form) (p : Properties) (start : Start) (now : BlockState) (base : ℕ) (bytes : List ℕ) (fault : Fault) : Type 0 where
  pub writes : WritesTo start now (taken_utf8 policy.assigned f p (text_under policy.replace bytes)) (Err fault)
  pub is : ¬ (fault ≡ Write) → Some fault ≡ fault_in policy p base bytes
