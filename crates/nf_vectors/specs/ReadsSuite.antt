-- What reading a vector file answers.
use Rattle.std.specs.Prelude.{◌≡◌, true, false, Bool, ℕ, ◌<◌, ◌≤◌, List, length, take, nat_lt, if◌then◌else◌, IsTrue, IsFalse, Option, Some, None, OnOk, IfErr, Result, MatchResult}
use Rattle.std.specs.Io.KnownBytes.{Consumes, IsAtEnd}
use Rattle.nf_filter.specs.Devices.{SourceState}
use Rattle.nf_vectors.specs.declared.fault.VectorFault.{VectorFault}
use Rattle.nf_vectors.specs.declared.fault.VectorKind.{VectorKind}
use Rattle.nf_vectors.specs.declared.fault.VectorKind.TheVariants.{Size, Read, Memory}
use Rattle.nf_vectors.specs.declared.suite.Suite.{Suite}
use Rattle.nf_vectors.specs.Limits.{limit}
use Rattle.nf_vectors.specs.Line.{lines_of}
use Rattle.nf_vectors.specs.RunsOut.{RunsOut}
use Rattle.nf_vectors.specs.Suite.{rows_from, names_part1_from, first_fault}
use Rattle.nf_vectors.specs.SuiteView.{rows_of, has_part1_of}

-- the lines of the bytes within the limit
abbrev pub lines_within : List ℕ → List (List ℕ)
lines_within bytes = lines_of (take limit bytes)

-- what stops the reading before the end of the file: a byte past the limit, or the source
abbrev pub stop_of : List ℕ → Bool → Option VectorKind
stop_of bytes failed = if nat_lt limit (length bytes) then Some Size else (if failed then Some Read else None)

-- the suite of all lines where there is no fault, or else the first fault
abbrev pub Tells : List ℕ → Bool → Result Suite VectorFault → Type 0
Tells bytes failed result = MatchResult result
    (λ suite. (first_fault 1 (stop_of bytes failed) (lines_within bytes) ≡ None) × (rows_of suite ≡ rows_from 1 false (lines_within bytes)) × (has_part1_of suite ≡ names_part1_from 1 (lines_within bytes)))
    (λ fault. ¬ (fault.kind ≡ Memory) → first_fault 1 (stop_of bytes failed) (lines_within bytes) ≡ Some fault)

-- the first fault of these bytes, however the reading stops: where a byte past the limit stands, by that
abbrev pub Finds : List ℕ → VectorFault → Type 0
Finds bytes fault = (stop : Option VectorKind) → (limit < length bytes → stop ≡ Some Size) → first_fault 1 stop (lines_within bytes) ≡ Some fault

-- a source was read, and stands failed or at its end or neither
pub record ReadsSuite (source left : SourceState) (result : Result Suite VectorFault) : Type 0 where
  -- what the source gave
  pub bytes : List ℕ
  pub given : Consumes source.coming left.coming bytes
  -- at its end the source has nothing left
  pub read_out : IsTrue left.is_at_end → IsAtEnd left.coming
  pub tells : Tells bytes left.is_failed result
  pub memory : IfErr result (λ fault. fault.kind ≡ Memory → RunsOut bytes left.is_at_end fault)
  -- the last line is judged only at the end: before it, the fault is the same however the reading were to stop
  pub end : OnOk result (left.is_at_end ≡ true)
  pub before_end : IsFalse left.is_at_end → IsFalse left.is_failed → length bytes ≤ limit
      → IfErr result (λ fault. ¬ (fault.kind ≡ Memory) → (stop : Option VectorKind) → first_fault 1 stop (lines_within bytes) ≡ Some fault)
