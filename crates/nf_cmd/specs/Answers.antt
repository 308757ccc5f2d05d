-- What a run of the program shows on its devices.
use Rattle.std.specs.Prelude.{◌≡◌, ◌⊎◌, ℕ, List, Option, Result, Ok, Err}
use Rattle.std.specs.Io.KnownBytes.{Keeps}
use Rattle.clap.specs.declared.error.kind.ErrorKind.{ErrorKind}
use Rattle.clap.specs.declared.error.kind.ErrorKind.TheVariants.{DisplayHelp, OutOfMemory}
use Rattle.clap.specs.Walk.{Text}
use Rattle.nf_forms.specs.Ucd.{ucd}
use Rattle.nf_cmd.specs.declared.fault.Fault.{Fault}
use Rattle.nf_cmd.specs.declared.fault.Fault.TheVariants.{Row, Write, Memory}
use Rattle.nf_cmd.specs.declared.line.Request.{Request}
use Rattle.nf_cmd.specs.declared.line.Request.TheVariants.{Convert, ConvertLines, Check, CheckForm, Measure, Test}
use Rattle.nf_cmd.specs.Line.{Asks, Refuses}
use Rattle.nf_cmd.specs.Fronts.{AppendsFront}
use Rattle.nf_cmd.specs.Converts.{Converts, ConvertsLines}
use Rattle.nf_cmd.specs.Checks.{Checks, ChecksForm}
use Rattle.nf_cmd.specs.Measures.{Measures}
use Rattle.nf_cmd.specs.Tests.{Tests}
use Rattle.nf_cmd.specs.Lines.{line_of, status_of}

-- what is known of the bytes that the reader has left, and that the output and standard error hold
pub record Devices : Type 0 where
  pub input : Option (List ℕ)
  pub out : Option (List ℕ)
  pub err : Option (List ℕ)

-- the status of a run that ended so, with its line on standard error
pub record EndsWith (before after : Devices) (found : Result ℕ Fault) (status : ℕ) : Type 0 where
  pub status_is : status ≡ status_of found
  pub line : AppendsFront before.err after.err (line_of found)

-- memory ran out, and nothing was written
pub record IsOutOfMemory (before after : Devices) (status : ℕ) : Type 0 where
  pub unwritten : Keeps before.out after.out
  pub ends : EndsWith before after (Err Memory) status

-- help was asked for: its text went to the output, or a write of it failed
abbrev pub IsHelp : Devices → Devices → ℕ → Type 0
IsHelp before after status = EndsWith before after (Ok 0) status ⊎ EndsWith before after (Err Write) status

-- the words are a mistake, and nothing was written on the output
pub record IsMistake (before after : Devices) (status : ℕ) : Type 0 where
  pub unwritten : Keeps before.out after.out
  pub status_is : status ≡ 2

-- what comes of an error of clap of this kind
abbrev pub ComesOf : ErrorKind → Devices → Devices → ℕ → Type 0
ComesOf OutOfMemory before after status = IsOutOfMemory before after status
ComesOf DisplayHelp before after status = IsOutOfMemory before after status ⊎ IsHelp before after status
ComesOf _ before after status = IsOutOfMemory before after status ⊎ IsMistake before after status

-- the words are refused, and nothing is read
pub record IsRefused (words : List Text) (before after : Devices) (status : ℕ) : Type 0 where
  pub kind : ErrorKind
  pub refuses : Refuses words kind
  pub unread : Keeps before.input after.input
  pub comes : ComesOf kind before after status

-- what a subcommand reads and writes, by how it ends
abbrev pub Does : Request → Devices → Devices → Result ℕ Fault → Type 0
Does (Convert form policy) before after found = Converts form policy ucd before.input after.input before.out after.out found
Does (ConvertLines form policy) before after found = ConvertsLines form policy ucd before.input after.input before.out after.out found
Does Check before after found = Checks ucd before.input after.input before.out after.out found
Does (CheckForm form assigned) before after found = ChecksForm form assigned before.input after.input before.out after.out found
Does Measure before after found = Measures ucd before.input after.input before.out after.out found
Does Test before after found = Tests ucd before.input after.input before.out after.out found

-- the words ask for this, and it was done
pub record IsDone (words : List Text) (before after : Devices) (status : ℕ) : Type 0 where
  pub request : Request
  pub asks : Asks words request
  pub found : Result ℕ Fault
  pub does : Does request before after found
  -- no character of Unicode's data is unsound
  pub sound : (at : ℕ) → ¬ (found ≡ Err (Row at))
  pub ends : EndsWith before after found status

-- memory ran out over the words, or they are refused, or what they ask for was done
abbrev pub Answers : List Text → Devices → Devices → ℕ → Type 0
Answers words before after status = IsOutOfMemory before after status ⊎ (IsRefused words before after status ⊎ IsDone words before after status)
