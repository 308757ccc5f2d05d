-- The count by which the Stream-Safe Text Process is done (UAX #15, section 13): the non-starters that the NFKD of a text ends in.
use Rattle.std.specs.Prelude.{ℕ, ◌+◌, Bool, nat_lt, List, [], ◌++◌, length, if◌then◌else◌, fold}
use Rattle.nf_forms.specs.Properties.{Properties}
use Rattle.nf_forms.specs.Runs.{has_starter, lead, trail}
use Rattle.nf_forms.specs.StreamSafe.{max_run}

-- what the count n becomes with a row
abbrev pub counted : Properties → ℕ → List ℕ → ℕ
counted p n row = if has_starter p row then trail p row else n + length row

-- with the row the run would be too long
abbrev pub passes : Properties → ℕ → List ℕ → Bool
passes p n row = nat_lt max_run (n + lead p row)

-- what the count becomes where it begins anew before a row with which the run would be too long
abbrev pub count_step : Properties → ℕ → List ℕ → ℕ
count_step p n row = counted p (if passes p n row then 0 else n) row

-- the rows joined, from the last one on before which the count begins anew
abbrev pub since_step : Properties → List ℕ → List ℕ → List ℕ
since_step p joined row = if passes p (trail p joined) row then row else joined ++ row

abbrev pub since_last : Properties → List (List ℕ) → List ℕ
since_last p rows = fold (since_step p) [] rows
