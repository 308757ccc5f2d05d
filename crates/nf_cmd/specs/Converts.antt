-- What `convert` reads and writes: what the library does over the same devices, under a policy and with a buffer of 64 KiB.
use Rattle.std.specs.Prelude.{◌≡◌, ◌⊎◌, ℕ, false, List, [], Option, Some, Result, Ok, Err, IsTrue, OnOk, option_map}
use Rattle.std.specs.Io.KnownBytes.{Keeps}
use Rattle.nf_forms.specs.Properties.{Properties}
use Rattle.nf_forms.specs.declared.form.Form.{Form}
use Rattle.nf_filter.specs.declared.fault.Fault.{Fault as Found}
use Rattle.nf_filter.specs.declared.policy.Policy.{Policy}
use Rattle.nf_filter.specs.Devices.{SinkState, SourceState}
use Rattle.nf_filter.specs.Drives.{Drives}
use Rattle.nf_lines.specs.Drives.{DrivesLines}
use Rattle.nf_cmd.specs.declared.fault.Fault.{Fault}
use Rattle.nf_cmd.specs.declared.fault.Fault.TheVariants.{Write}
use Rattle.nf_cmd.specs.Faults.{told}

-- the end of a run by the library's answer: status 0, or its fault
abbrev pub end_of : {T : Type 0} → Result T Found → Option (Result ℕ Fault)
end_of (Ok _) = Some (Ok 0)
end_of (Err fault) = option_map Err (told fault)

-- the library answers so, over what the input has still to give and what the output has taken, before and after, where
-- they tell it
pub record Runs {T : Type 0} (drives : SourceState → SourceState → SinkState → SinkState → Result T Found → Type 0) (coming left taken now : Option (List ℕ)) (answer : Result T Found) : Type 0 where
  pub source : SourceState
  pub rest : SourceState
  pub old : SinkState
  pub new : SinkState
  pub driven : drives source rest old new answer
  pub end : OnOk answer (IsTrue rest.is_at_end)
  pub input_is : (source.coming ≡ coming) × (rest.coming ≡ left)
  pub output_is : (old.taken ≡ taken) × (new.taken ≡ now)
  pub unfailed : old.is_failed ≡ false

-- the program ends by that answer, unless a flush failed; a flush writes nothing
pub record Ends {T : Type 0} (drives : SourceState → SourceState → SinkState → SinkState → Result T Found → Type 0) (coming left taken now : Option (List ℕ)) (found : Result ℕ Fault) : Type 0 where
  pub answer : Result T Found
  pub given : Option (List ℕ)
  pub runs : Runs drives coming left taken given answer
  pub flushed : Keeps given now
  pub found_is : (Some found ≡ end_of answer) ⊎ (found ≡ Err Write)

-- by `drive_buffered`, with a new filter
abbrev pub Converts : Form → Policy → Properties → Option (List ℕ) → Option (List ℕ) → Option (List ℕ) → Option (List ℕ) → Result ℕ Fault → Type 0
Converts f policy p coming left taken now found = Ends (Drives 65536 policy f p 0 []) coming left taken now found

-- with `--line-buffered` by `drive_lines`
abbrev pub ConvertsLines : Form → Policy → Properties → Option (List ℕ) → Option (List ℕ) → Option (List ℕ) → Option (List ℕ) → Result ℕ Fault → Type 0
ConvertsLines f policy p coming left taken now found = Ends (DrivesLines 65536 policy f p) coming left taken now found
