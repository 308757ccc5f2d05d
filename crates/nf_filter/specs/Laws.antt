-- Laws of what is settled. `src/laws.rt` has each as a contract.
pub mod Assigned
pub mod Settled
pub mod Soundness
pub mod Undecided
use Rattle.std.specs.Prelude.{◌≡◌, ℕ, ◌+◌, ◌≤◌, List, ◌++◌, length, IsTrue}
use Rattle.nf_forms.specs.Properties.{Properties}
use Rattle.nf_forms.specs.declared.form.Form.{Form}
use Rattle.nf_forms.specs.declared.form.Form.TheVariants.{Nfkd}
use Rattle.nf_forms.specs.Runs.{trail}
use Rattle.nf_forms.specs.Forms.{decomposed}
use Rattle.nf_forms.specs.StreamSafe.{max_run, stream_safe}
use Rattle.nf_forms.specs.SafeForm.{safe_form}
use Rattle.nf_filter.specs.Settled.{settled, is_usable}

-- whatever follows a text, what is settled of it stays
abbrev pub SettledOnlyGrows : Type 0
SettledOnlyGrows = (f : Form) (p : Properties) (x y : List ℕ) → (more : List ℕ) × (settled f p (x ++ y) ≡ settled f p x ++ more)

-- little of the form is not settled
abbrev pub LittleIsHeldBack : Type 0
LittleIsHeldBack = (f : Form) (p : Properties) (x : List ℕ) → IsTrue (is_usable p x) → length (safe_form f p x) ≤ length (settled f p x) + 31

-- the run that a text ends in is as short in each form as the count in NFKD says
abbrev pub RunsStayShort : Type 0
RunsStayShort = (f : Form) (p : Properties) (x : List ℕ) → IsTrue (is_usable p x)
    → (trail p (decomposed f p (stream_safe p x)) ≤ trail p (decomposed Nfkd p (stream_safe p x))) × (trail p (decomposed Nfkd p (stream_safe p x)) ≤ max_run)
