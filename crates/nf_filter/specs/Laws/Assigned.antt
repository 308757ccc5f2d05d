-- Where the policy does not ask for assigned characters, none is refused for not being one. `src/laws.rt` has each statement
-- as a contract.
use Rattle.std.specs.Prelude.{◌≡◌, false, ℕ, List, Result, Err}
use Rattle.nf_forms.specs.Properties.{Properties}
use Rattle.nf_forms.specs.declared.form.Form.{Form}
use Rattle.nf_filter.specs.declared.fault.Fault.{Fault}
use Rattle.nf_filter.specs.declared.fault.Fault.TheVariants.{Unassigned}
use Rattle.nf_filter.specs.declared.policy.Policy.{Policy}
use Rattle.nf_filter.specs.declared.tally.Tally.{Tally}
use Rattle.nf_filter.specs.Devices.{SinkState, SourceState}
use Rattle.nf_filter.specs.Feeds.{Feeds}
use Rattle.nf_filter.specs.Finishes.{Finishes}
use Rattle.nf_filter.specs.Drives.{Drives}

abbrev pub FindsAllAssigned : {T : Type 0} → Result T Fault → Type 0
FindsAllAssigned result = (at : ℕ) → ¬ (result ≡ Err (Unassigned at))

-- by feeding a piece
abbrev pub FeedingFindsAllAssigned : Type 0
FeedingFindsAllAssigned = (policy : Policy) (f : Form) (p : Properties) (base : ℕ) (bytes piece : List ℕ) (old new : SinkState) (result : Result (Unit {0}) Fault)
    → policy.assigned ≡ false → Feeds policy f p base bytes piece old new result → FindsAllAssigned result

-- by finishing
abbrev pub FinishingFindsAllAssigned : Type 0
FinishingFindsAllAssigned = (policy : Policy) (f : Form) (p : Properties) (base : ℕ) (bytes : List ℕ) (old new : SinkState) (result : Result Tally Fault)
    → policy.assigned ≡ false → Finishes policy f p base bytes old new result → FindsAllAssigned result

-- by driving a filter
abbrev pub DrivingFindsAllAssigned : Type 0
DrivingFindsAllAssigned = (most : ℕ) (policy : Policy) (f : Form) (p : Properties) (base : ℕ) (bytes : List ℕ) (source left : SourceState) (old new : SinkState) (result : Result Tally Fault)
    → policy.assigned ≡ false → Drives most policy f p base bytes source left old new result → FindsAllAssigned result
