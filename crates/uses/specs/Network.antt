-- What has come over a connection, and went on.
use Rattle.std.specs.Prelude.{◌≡◌, ℕ, List, [], Option, Result, OnOk, IsTrue}
use Rattle.std.specs.Io.KnownBytes.{Appends, Consumes}
use Rattle.nf_forms.specs.Properties.{Properties}
use Rattle.nf_forms.specs.declared.form.Form.{Form}
use Rattle.nf_filter.specs.Settled.{settled_utf8}
use Rattle.nf_filter.specs.Policy.{as_is}
use Rattle.nf_filter.specs.declared.fault.Fault.{Fault}
use Rattle.nf_filter.specs.declared.tally.Tally.{Tally}
use Rattle.nf_filter.specs.Devices.{SinkState, SourceState}
use Rattle.nf_filter.specs.Drives.{Drives}

-- the bytes that have come are as many as were taken off the connection, and what they settle of the form went on
pub record HasRelayed (f : Form) (p : Properties) (coming left taken now : Option (List ℕ)) : Type 0 where
  pub come : List ℕ
  pub read : Consumes coming left come
  pub written : Appends taken now (settled_utf8 as_is f p come)

-- a new filter was driven over what came: before a fault what is settled of it went on, and nothing after that; the fault is
-- the first in it, or the sink's, which stands failed then, or the connection's
pub record Relays (f : Form) (p : Properties) (coming left : Option (List ℕ)) (old new : SinkState) (answer : Result Tally Fault) : Type 0 where
  pub source : SourceState
  pub rest : SourceState
  pub input_is : (source.coming ≡ coming) × (rest.coming ≡ left)
  pub end : OnOk answer (IsTrue rest.is_at_end)
  pub driven : Drives 1500 as_is f p 0 [] source rest old new answer
