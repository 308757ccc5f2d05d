-- What a vector file holds: its rows in order, and the first fault in reading it.
use Rattle.std.specs.Prelude.{ℕ, ◌+◌, Bool, false, ◌||◌, ◌==◌, List, [], ◌∷◌, ◌++◌, take, drop, if◌then◌else◌, bytes_eq, Option, Some, None}
use Rattle.nf_vectors.specs.declared.fault.VectorFault.{VectorFault}
use Rattle.nf_vectors.specs.declared.fault.VectorKind.{VectorKind}
use Rattle.nf_vectors.specs.Columns.{Columns}
use Rattle.nf_vectors.specs.Judgement.{Judgement, Part, Row, Bad, judgement}

pub record VectorRow : Type 0 where
  pub line : ℕ
  pub in_part1 : Bool
  pub columns : Columns

-- the first line without the byte order mark before it
abbrev pub unmarked : List ℕ → List ℕ
unmarked line = if bytes_eq (take 3 line) (0xEF ∷ 0xBB ∷ 0xBF ∷ []) then drop 3 line else line

-- a line by its number, from 1
abbrev pub judged : ℕ → List ℕ → Judgement
judged n line = judgement (if n == 1 then unmarked line else line)

-- the row that a line is
abbrev pub row_at : ℕ → Bool → Judgement → List VectorRow
row_at n in_part1 (Row columns) = record { line = n; in_part1 = in_part1; columns = columns } ∷ []
row_at n in_part1 _ = []

-- whether the lines after it are in Part 1
abbrev pub part1_after : Bool → Judgement → Bool
part1_after in_part1 (Part is_part1) = is_part1
part1_after in_part1 _ = in_part1

abbrev pub is_part1_line : Judgement → Bool
is_part1_line (Part is_part1) = is_part1
is_part1_line _ = false

-- the rows of lines, of which the first has the number n
abbrev pub rows_from : ℕ → Bool → List (List ℕ) → List VectorRow
rows_from n in_part1 [] = []
rows_from n in_part1 (line ∷ more) = row_at n in_part1 (judged n line) ++ rows_from (n + 1) (part1_after in_part1 (judged n line)) more

-- whether one of them names Part 1
abbrev pub names_part1_from : ℕ → List (List ℕ) → Bool
names_part1_from n [] = false
names_part1_from n (line ∷ more) = is_part1_line (judged n line) || names_part1_from (n + 1) more

-- the fault of a line, or else
abbrev pub fault_or : ℕ → Judgement → Option VectorFault → Option VectorFault
fault_or n (Bad kind) other = Some (record { line = n; kind = kind })
fault_or n _ other = other

-- the fault where the reading stops in the last line: what stopped it, or else that of the line
abbrev pub last_fault : ℕ → Option VectorKind → List ℕ → Option VectorFault
last_fault n (Some kind) line = Some (record { line = n; kind = kind })
last_fault n None line = fault_or n (judged n line) None

-- the first fault in reading
abbrev pub first_fault : ℕ → Option VectorKind → List (List ℕ) → Option VectorFault
first_fault n stop [] = None
first_fault n stop (line ∷ []) = last_fault n stop line
first_fault n stop (line ∷ next ∷ more) = fault_or n (judged n line) (first_fault (n + 1) stop (next ∷ more))
