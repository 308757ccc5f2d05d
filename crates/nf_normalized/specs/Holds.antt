-- What a filter has taken and not written.
use Rattle.std.specs.Prelude.{◌≡◌, ℕ, Bool, List, ◌++◌}
use Rattle.nf_forms.specs.Ucd.{ucd}
use Rattle.nf_forms.specs.declared.form.Form.{Form}
use Rattle.nf_filter.specs.declared.filter.State.{State}
use Rattle.nf_filter.specs.Filter.{StandsAfter}
use Rattle.nf_filter.specs.Settled.{settled_utf8}
use Rattle.nf_normalized.specs.Change.{under}

-- a filter has taken the bytes, and wrote a front of them: `held` is the rest
pub record Holds (assigned : Bool) (f : Form) (state : State) (held bytes : List ℕ) : Type 0 where
  pub filter : StandsAfter (under assigned) f ucd state bytes
  pub split : bytes ≡ settled_utf8 (under assigned) f ucd bytes ++ held

-- so it has taken some
pub record HoldsSome (state : State) (held : List ℕ) : Type 0 where
  pub assigned : Bool
  pub form : Form
  pub bytes : List ℕ
  pub holds : Holds assigned form state held bytes
