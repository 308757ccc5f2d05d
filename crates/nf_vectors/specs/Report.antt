-- What a suite's rows come to (the conditions of NormalizationTest.txt).
use Rattle.std.specs.Prelude.{ℕ, ◌+◌, Bool, true, false, List, [], ◌∷◌, length, Option, Some, None, option_map, if◌then◌else◌, count_by}
use Rattle.std.specs.Option.{option_or}
use Rattle.nf_forms.specs.Properties.{Properties}
use Rattle.nf_forms.specs.declared.form.Form.{Form}
use Rattle.nf_forms.specs.declared.form.Form.TheVariants.{Nfc, Nfd, Nfkc, Nfkd}
use Rattle.nf_vectors.specs.declared.report.Failure.{Failure}
use Rattle.nf_vectors.specs.declared.report.Report.{Report}
use Rattle.nf_vectors.specs.declared.report.Verdict.{Verdict}
use Rattle.nf_vectors.specs.declared.report.Verdict.TheVariants.{Skipped, Passed, Failed}
use Rattle.nf_vectors.specs.Columns.{Columns, number_of}
use Rattle.nf_vectors.specs.Suite.{VectorRow}
use Rattle.nf_vectors.specs.Comparison.{failing_column, is_skipped}

abbrev pub failure_in : Form → Properties → ℕ → Columns → Option Failure
failure_in f p line columns = option_map (λ column. record { line = line; form = f; column = number_of column }) (failing_column f p columns)

-- the first comparison of a row that does not hold
abbrev pub failure_of : Properties → ℕ → Columns → Option Failure
failure_of p line columns = option_or (failure_in Nfc p line columns) (option_or (failure_in Nfd p line columns) (option_or (failure_in Nfkc p line columns) (failure_in Nfkd p line columns)))

abbrev pub by_failure : Option Failure → Verdict
by_failure None = Passed
by_failure (Some failure) = Failed failure

abbrev pub verdict_of : Properties → VectorRow → Verdict
verdict_of p row = if is_skipped p row.columns then Skipped else by_failure (failure_of p row.line row.columns)

abbrev pub is_skip : Verdict → Bool
is_skip Skipped = true
is_skip _ = false

abbrev pub is_pass : Verdict → Bool
is_pass Passed = true
is_pass _ = false

abbrev pub is_failure : Verdict → Bool
is_failure (Failed failure) = true
is_failure _ = false

abbrev pub failure_or : Verdict → Option Failure → Option Failure
failure_or (Failed failure) other = Some failure
failure_or _ other = other

-- that of the first row that fails
abbrev pub first_failure_of : Properties → List VectorRow → Option Failure
first_failure_of p [] = None
first_failure_of p (row ∷ rows) = failure_or (verdict_of p row) (first_failure_of p rows)

unfoldable pub report_of : Properties → List VectorRow → Report
report_of p rows = record {
  rows = length rows;
  passed = count_by (λ row. is_pass (verdict_of p row)) rows;
  failed = count_by (λ row. is_failure (verdict_of p row)) rows;
  skipped = count_by (λ row. is_skip (verdict_of p row)) rows;
  first_failure = first_failure_of p rows;
}

-- a report with one row more
abbrev pub report_and : Report → Verdict → Report
report_and report Skipped = record report { rows = report.rows + 1; skipped = report.skipped + 1 }
report_and report Passed = record report { rows = report.rows + 1; passed = report.passed + 1 }
report_and report (Failed failure) = record report { rows = report.rows + 1; failed = report.failed + 1; first_failure = option_or report.first_failure (Some failure) }
