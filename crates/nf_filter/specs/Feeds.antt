-- What feeding a piece to a filter answers and writes.
use Rattle.std.specs.Prelude.{◌≡◌, ℕ, ◌<◌, ◌↔◌, List, ◌++◌, length, IsTrue, Result, Err}
use Rattle.std.specs.Result.{result_err}
use Rattle.nf_forms.specs.Properties.{Properties}
use Rattle.nf_forms.specs.declared.form.Form.{Form}
use Rattle.nf_filter.specs.declared.fault.Fault.{Fault}
use Rattle.nf_filter.specs.declared.fault.Fault.TheVariants.{Write}
use Rattle.nf_filter.specs.declared.policy.Policy.{Policy}
use Rattle.nf_filter.specs.Devices.{SinkState}
use Rattle.nf_filter.specs.Writes.{Puts, BreaksOff}
use Rattle.nf_filter.specs.Settled.{settled_utf8}
use Rattle.nf_filter.specs.Faults.{fault_in}

-- the filter stands after `bytes`, the first of which has the offset `base`, and the piece is not too long
pub record Feeds (policy : Policy) (f : Form) (p : Properties) (base : ℕ) (bytes piece : List ℕ) (old new : SinkState) (result : Result (Unit {0}) Fault) : Type 0 where
  -- the sink failed on what was to be written, or stood failed
  pub write : (result ≡ Err Write) ↔ (IsTrue new.is_failed × (length (settled_utf8 policy f p bytes) < length (settled_utf8 policy f p (bytes ++ piece))))
  pub broken_off : result ≡ Err Write → BreaksOff old new (settled_utf8 policy f p bytes) (settled_utf8 policy f p (bytes ++ piece))
  -- else all that is settled was written, and then the first fault is told
  pub written : ¬ (result ≡ Err Write) → Puts old new (settled_utf8 policy f p bytes) (settled_utf8 policy f p (bytes ++ piece))
  pub answer : ¬ (result ≡ Err Write) → result_err result ≡ fault_in policy p base (bytes ++ piece)
