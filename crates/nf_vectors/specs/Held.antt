-- What a line holds once its code points stand after a suite's text.
use Rattle.std.specs.Prelude.{◌≡◌, ℕ, List, ◌++◌, length, slice_range, Result, Ok}
use Rattle.nf_vectors.specs.declared.columns.Ends.{Ends}
use Rattle.nf_vectors.specs.declared.fault.VectorKind.{VectorKind}
use Rattle.nf_vectors.specs.declared.line.Line.{Line}
use Rattle.nf_vectors.specs.declared.line.Line.TheVariants.{Nothing as NothingHeld, Part as PartHeld, Row as RowHeld}
use Rattle.nf_vectors.specs.Columns.{Columns}
use Rattle.nf_vectors.specs.Judgement.{Judgement, Nothing, Part, Row}

-- the columns that stand in the text
abbrev pub columns_at : List ℕ → Ends → Columns
columns_at text ends = record {
  source = slice_range text ends.start ends.source;
  nfc = slice_range text ends.source ends.nfc;
  nfd = slice_range text ends.nfc ends.nfd;
  nfkc = slice_range text ends.nfd ends.nfkc;
  nfkd = slice_range text ends.nfkc ends.nfkd;
}

abbrev pub Grows : List ℕ → List ℕ → Type 0
Grows old new = (more : List ℕ) × (new ≡ old ++ more)

abbrev pub HoldsColumn : List ℕ → List ℕ → Result (List ℕ) VectorKind → Type 0
HoldsColumn old new read = (codes : List ℕ) × (read ≡ Ok codes) × (new ≡ old ++ codes)

abbrev pub HoldsRow : Ends → List ℕ → Result Columns VectorKind → Type 0
HoldsRow ends text read = (read ≡ Ok (columns_at text ends)) × (ends.nfkd ≡ length text)

abbrev pub Holds : Line → List ℕ → Judgement → Type 0
Holds NothingHeld text judged = judged ≡ Nothing
Holds (PartHeld is_part1) text judged = judged ≡ Part is_part1
Holds (RowHeld ends) text judged = (judged ≡ Row (columns_at text ends)) × (ends.nfkd ≡ length text)
