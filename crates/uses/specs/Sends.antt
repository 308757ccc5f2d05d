-- What was sent to a writer.
use Rattle.std.specs.Prelude.{◌≡◌, false, ℕ, List, Option, Result}
use Rattle.nf_forms.specs.Properties.{Properties}
use Rattle.nf_forms.specs.declared.form.Form.{Form}
use Rattle.nf_filter.specs.declared.fault.Fault.{Fault}
use Rattle.nf_filter.specs.declared.tally.Tally.{Tally}
use Rattle.nf_filter.specs.Devices.{SinkState}
use Rattle.nf_filter.specs.Whole.{Converts}

-- the library's `convert` answers so, over what the writer has taken, before and after, where it tells that: before a fault
-- what is settled, and nothing after it
pub record Sends (f : Form) (p : Properties) (bytes : List ℕ) (taken now : Option (List ℕ)) (answer : Result Tally Fault) : Type 0 where
  pub old : SinkState
  pub new : SinkState
  pub output_is : (old.taken ≡ taken) × (new.taken ≡ now)
  pub unfailed : old.is_failed ≡ false
  pub converts : Converts f p bytes old new answer
