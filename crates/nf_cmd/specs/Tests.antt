-- What `test` reads, answers and writes: what the rows of a vector file come to (the conditions of NormalizationTest.txt).
use Rattle.std.specs.Prelude.{◌≡◌, ◌⊎◌, ℕ, Bool, true, ◌&&◌, ◌==◌, List, [], ◌∷◌, ◌++◌, Option, Some, None, Result, Ok, Err, if◌then◌else◌, codes, decimal}
use Rattle.std.specs.Io.KnownBytes.{Appends}
use Rattle.nf_forms.specs.Properties.{Properties}
use Rattle.nf_filter.specs.Devices.{SourceState}
use Rattle.nf_vectors.specs.declared.fault.VectorFault.{VectorFault}
use Rattle.nf_vectors.specs.declared.report.Failure.{Failure}
use Rattle.nf_vectors.specs.declared.suite.Suite.{Suite}
use Rattle.nf_vectors.specs.declared.sweep.Sweep.{Sweep}
use Rattle.nf_vectors.specs.ReadsSuite.{ReadsSuite}
use Rattle.nf_vectors.specs.Report.{report_of}
use Rattle.nf_vectors.specs.SuiteView.{rows_of, has_part1_of}
use Rattle.nf_vectors.specs.Sweep.{sweep_of}
use Rattle.nf_cmd.specs.declared.fault.Fault.{Fault}
use Rattle.nf_cmd.specs.declared.fault.Fault.TheVariants.{Write, Memory}
use Rattle.nf_cmd.specs.declared.test.Finding.{Finding}
use Rattle.nf_cmd.specs.Faults.{told_of_file}
use Rattle.nf_cmd.specs.Fronts.{AppendsFront}
use Rattle.nf_cmd.specs.Text.{code_digits, line, name_of}

abbrev pub column_end : ℕ → List ℕ
column_end column = codes " column " ++ (decimal column ++ 10 ∷ [])

abbrev pub failure_lines : Option Failure → List ℕ
failure_lines None = []
failure_lines (Some f) = codes "first failure line " ++ (decimal f.line ++ (codes " form " ++ (name_of f.form ++ column_end f.column)))

abbrev pub first_lines : Option ℕ → List ℕ
first_lines None = []
first_lines (Some c) = codes "first unlisted U+" ++ (code_digits c ++ 10 ∷ [])

abbrev pub sweep_lines : Option Sweep → List ℕ
sweep_lines None = []
sweep_lines (Some s) = (line (codes "unlisted") s.unlisted ++ line (codes "unlisted failed") s.failed) ++ first_lines s.first

-- what the rows come to, and where the file has a Part 1 the characters that this does not list
abbrev pub finding_of : Properties → Suite → Finding
finding_of p suite = record { report = report_of p (rows_of suite); sweep = if has_part1_of suite then Some (sweep_of p (rows_of suite)) else None }

abbrev pub finding_lines : Result Finding Fault → List ℕ
finding_lines (Ok f) =
    ((((line (codes "rows") f.report.rows
    ++ line (codes "passed") f.report.passed)
    ++ line (codes "failed") f.report.failed)
    ++ line (codes "skipped") f.report.skipped)
    ++ failure_lines f.report.first_failure)
    ++ sweep_lines f.sweep
finding_lines (Err fault) = []

-- what comes of the file that was read: nothing where it was refused, or where memory ran out over its rows
abbrev pub Finds : Properties → Result Suite VectorFault → Result Finding Fault → Type 0
Finds p (Ok suite) (Ok finding) = finding ≡ finding_of p suite
Finds p (Ok suite) (Err fault) = fault ≡ Memory
Finds p (Err refused) (Ok finding) = ⊥
Finds p (Err refused) (Err fault) = fault ≡ told_of_file refused

-- no row failed, and no character that is not listed
abbrev pub is_clean_sweep : Option Sweep → Bool
is_clean_sweep None = true
is_clean_sweep (Some s) = s.failed == 0

abbrev pub finding_end : Result Finding Fault → Result ℕ Fault
finding_end (Ok f) = Ok (if (f.report.failed == 0) && is_clean_sweep f.sweep then 0 else 1)
finding_end (Err fault) = Err fault

-- a vector file is read so, over what the input has still to give, before and after
pub record Reads (coming left : Option (List ℕ)) (suite : Result Suite VectorFault) : Type 0 where
  pub source : SourceState
  pub rest : SourceState
  pub input_is : (source.coming ≡ coming) × (rest.coming ≡ left)
  pub reads : ReadsSuite source rest suite

-- over what the input has still to give and what the output has taken, before and after, where they tell it
pub record Tests (p : Properties) (coming left taken now : Option (List ℕ)) (found : Result ℕ Fault) : Type 0 where
  pub suite : Result Suite VectorFault
  pub reads : Reads coming left suite
  pub finding : Result Finding Fault
  pub finds : Finds p suite finding
  pub front : AppendsFront taken now (finding_lines finding)
  pub output : ¬ (found ≡ Err Write) → Appends taken now (finding_lines finding)
  pub found_is : (found ≡ finding_end finding) ⊎ (found ≡ Err Write)
