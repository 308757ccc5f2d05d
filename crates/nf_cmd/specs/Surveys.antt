-- What a command that only asks about its input reads, answers and writes.
use Rattle.std.specs.Prelude.{◌≡◌, ◌⊎◌, ℕ, List, Option, Some, Result, Err}
use Rattle.std.specs.Io.KnownBytes.{Appends}
use Rattle.nf_filter.specs.declared.fault.Fault.{Fault as Found}
use Rattle.nf_filter.specs.Devices.{SourceState}
use Rattle.nf_filter.specs.Surveys.{Surveys}
use Rattle.nf_cmd.specs.Fronts.{AppendsFront}
use Rattle.nf_cmd.specs.declared.fault.Fault.{Fault}
use Rattle.nf_cmd.specs.declared.fault.Fault.TheVariants.{Write}

-- the library answers by `decision` and `value` over what the input has still to give, before and after, with a buffer of
-- 64 KiB
pub record Surveyed {T : Type 0} (decision : List ℕ → Option (Result T Found)) (value : List ℕ → T) (coming left : Option (List ℕ)) (answer : Result T Found) : Type 0 where
  pub source : SourceState
  pub rest : SourceState
  pub input_is : (source.coming ≡ coming) × (rest.coming ≡ left)
  pub surveys : Surveys 65536 0 decision value source rest answer

-- the output takes the lines of that answer, and the program ends by it, unless a write or a flush of the lines failed:
-- then it has taken a front of them
pub record Tells {T : Type 0} (decision : List ℕ → Option (Result T Found)) (value : List ℕ → T) (lines : Result T Found → List ℕ) (end : Result T Found → Option (Result ℕ Fault))
    (coming left taken now : Option (List ℕ)) (found : Result ℕ Fault) : Type 0 where
  pub answer : Result T Found
  pub surveyed : Surveyed decision value coming left answer
  pub front : AppendsFront taken now (lines answer)
  pub output : ¬ (found ≡ Err Write) → Appends taken now (lines answer)
  pub found_is : (Some found ≡ end answer) ⊎ (found ≡ Err Write)
