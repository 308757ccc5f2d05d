-- What one line of a vector file is, judged alone (the layout of NormalizationTest.txt).
use Rattle.std.specs.Prelude.{ℕ, Bool, ◌==◌, List, [], ◌∷◌, if◌then◌else◌, bytes_eq, Result, Ok, Err, codes}
use Rattle.std.specs.List.{before_first, list_all, slice_split}
use Rattle.nf_vectors.specs.declared.fault.VectorKind.{VectorKind}
use Rattle.nf_vectors.specs.declared.fault.VectorKind.TheVariants.{Fields, Size, Read}
use Rattle.nf_vectors.specs.Columns.{Columns}
use Rattle.nf_vectors.specs.Line.{is_semicolon, is_gap, is_blank, content}
use Rattle.nf_vectors.specs.Words.{and_then, column_in}

pub data Judgement : Type 0 where
  Nothing : Judgement
  Part : (is_part1 : Bool) → Judgement
  Row : (columns : Columns) → Judgement
  Bad : (kind : VectorKind) → Judgement

-- the columns, read from the first to the last
abbrev pub columns_of : List ℕ → List ℕ → List ℕ → List ℕ → List ℕ → Result Columns VectorKind
columns_of a b c d e =
    and_then (column_in a) (λ source. and_then (column_in b) (λ nfc. and_then (column_in c) (λ nfd.
    and_then (column_in d) (λ nfkc. and_then (column_in e) (λ nfkd.
    Ok (record { source = source; nfc = nfc; nfd = nfd; nfkc = nfkc; nfkd = nfkd }))))))

-- five pieces, or six of which the last has blanks alone
abbrev pub columns_in : List (List ℕ) → Result Columns VectorKind
columns_in (a ∷ b ∷ c ∷ d ∷ e ∷ []) = columns_of a b c d e
columns_in (a ∷ b ∷ c ∷ d ∷ e ∷ f ∷ []) = if list_all is_blank f then columns_of a b c d e else Err Fields
columns_in _ = Err Fields

abbrev pub row_or_bad : Result Columns VectorKind → Judgement
row_or_bad (Ok columns) = Row columns
row_or_bad (Err kind) = Bad kind

-- after '@' the name up to the first gap is that of Part 1
abbrev pub is_part1 : List ℕ → Bool
is_part1 name = bytes_eq (before_first is_gap name) (codes "Part1")

abbrev pub row_in : List ℕ → Result Columns VectorKind
row_in line = columns_in (slice_split is_semicolon line)

-- by what the line says: nothing, '@' and the name of a part, or a row
abbrev pub judgement_of : List ℕ → Judgement
judgement_of [] = Nothing
judgement_of (b ∷ more) = if b == 0x40 then Part (is_part1 more) else row_or_bad (row_in (b ∷ more))

abbrev pub judgement : List ℕ → Judgement
judgement line = judgement_of (content line)

-- the kinds that judging a line can answer
abbrev pub IsOfLine : VectorKind → Type 0
IsOfLine Size = ⊥
IsOfLine Read = ⊥
IsOfLine _ = Unit {0}
