-- Where a filter stands.
use Rattle.std.specs.Prelude.{◌≡◌, false, Bool, ℕ, List, [], None}
use Rattle.nf_forms.specs.Properties.{Properties}
use Rattle.nf_forms.specs.declared.form.Form.{Form}
use Rattle.nf_filter.specs.declared.filter.Filter.{Filter}
use Rattle.nf_filter.specs.declared.filter.State.{State}
use Rattle.nf_filter.specs.declared.policy.Policy.{Policy}
use Rattle.nf_filter.specs.Faults.{fault_in}
use Rattle.nf_filter.specs.Feeding.{HasReadTo}

abbrev pub rows_of : {R : Type 0} → Filter R → R
rows_of filter = filter.rows.now

abbrev pub state_of : {R : Type 0} → Filter R → State
state_of filter = filter.state

-- the offset of the first byte
abbrev pub base_of : State → ℕ
base_of state = state.base

-- the offset of the next byte
abbrev pub offset_of : State → ℕ
offset_of state = state.reading.offset

-- an earlier call was refused
abbrev pub is_spent : State → Bool
is_spent state = state.spent

-- under the policy it has taken exactly these bytes, and no call was refused but for their length
pub record StandsAfter (policy : Policy) (f : Form) (p : Properties) (state : State) (bytes : List ℕ) : Type 0 where
  pub unspent : is_spent state ≡ false
  pub policy_is : state.policy ≡ policy
  pub reading : HasReadTo policy f p state.counted (base_of state) state.reading bytes []
  pub no_fault : fault_in policy p (base_of state) bytes ≡ None
