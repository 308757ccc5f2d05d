-- Where the reading of a vector file stands.
use Rattle.std.specs.Prelude.{◌≡◌, false, ◌||◌, ℕ, ◌+◌, ◌<◌, ◌≤◌, List, ◌++◌, length, All, Option}
use Rattle.nf_vectors.specs.declared.fault.VectorKind.{VectorKind}
use Rattle.nf_vectors.specs.declared.reading.Reading.{Reading}
use Rattle.nf_vectors.specs.Line.{is_line_end, lines_of}
use Rattle.nf_vectors.specs.Judgement.{Judgement}
use Rattle.nf_vectors.specs.Suite.{row_at, part1_after, is_part1_line, rows_from, names_part1_from, first_fault}
use Rattle.nf_vectors.specs.SuiteView.{AreWithin, rows_in}

-- whatever follows these bytes, the file is that of the lines that were ended, and then of the line begun
pub record StandsAfter (reading : Reading) (bytes : List ℕ) : Type 0 where
  pub faults : (stop : Option VectorKind) (more : List ℕ) → first_fault 1 stop (lines_of (bytes ++ more)) ≡ first_fault reading.line stop (lines_of (reading.bytes.items ++ more))
  pub rows : (more : List ℕ) → rows_from 1 false (lines_of (bytes ++ more))
      ≡ rows_in reading.text.items reading.entries.items ++ rows_from reading.line reading.in_part1 (lines_of (reading.bytes.items ++ more))
  pub part1 : (more : List ℕ) → names_part1_from 1 (lines_of (bytes ++ more)) ≡ (reading.has_part1 || names_part1_from reading.line (lines_of (reading.bytes.items ++ more)))
  pub taken : reading.taken ≡ length bytes
  pub one_line : All (λ b. is_line_end b ≡ false) reading.bytes.items

-- what it counts fits, and its columns stand in its text
pub record IsWithin (reading : Reading) : Type 0 where
  pub taken : reading.taken ≤ 67108864
  pub first : 1 ≤ reading.line
  pub line : reading.line ≤ reading.taken + 1
  pub entries : length reading.entries.items < reading.line
  pub text : length reading.text.items + length reading.bytes.items ≤ reading.taken
  pub columns : AreWithin reading.text.items reading.entries.items

-- the line was judged, and is ended
pub record EndsLine (judged : Judgement) (old new : Reading) : Type 0 where
  pub rows : rows_in new.text.items new.entries.items ≡ rows_in old.text.items old.entries.items ++ row_at old.line old.in_part1 judged
  pub in_part1 : new.in_part1 ≡ part1_after old.in_part1 judged
  pub has_part1 : new.has_part1 ≡ (old.has_part1 || is_part1_line judged)
