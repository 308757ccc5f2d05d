-- The five columns of a row of NormalizationTest.txt, in the order of the file: what there is of each.
use Rattle.std.specs.Prelude.{◌<◌, ◌^◌, ℕ, List, length}
use Rattle.nf_vectors.specs.declared.columns.Column.{Column}
use Rattle.nf_vectors.specs.declared.columns.Column.TheVariants.{Source, Nfc, Nfd, Nfkc, Nfkd}
use Rattle.nf_vectors.specs.declared.columns.Columns.{Columns as Five}

-- their code points
abbrev pub Columns : Type 0
Columns = Five (List ℕ)

-- the same of each
abbrev pub each : {A B : Type 0} → Five A → (A → B) → Five B
each columns f = record { source = f columns.source; nfc = f columns.nfc; nfd = f columns.nfd; nfkc = f columns.nfkc; nfkd = f columns.nfkd }

-- one of them
abbrev pub at : {A : Type 0} → Five A → Column → A
at columns Source = columns.source
at columns Nfc = columns.nfc
at columns Nfd = columns.nfd
at columns Nfkc = columns.nfkc
at columns Nfkd = columns.nfkd

abbrev pub number_of : Column → ℕ
number_of Source = 1
number_of Nfc = 2
number_of Nfd = 3
number_of Nfkc = 4
number_of Nfkd = 5

-- their lengths fit 32 bits
pub record AreShort (columns : Columns) : Type 0 where
  pub source : length columns.source < 2 ^ 32
  pub nfc : length columns.nfc < 2 ^ 32
  pub nfd : length columns.nfd < 2 ^ 32
  pub nfkc : length columns.nfkc < 2 ^ 32
  pub nfkd : length columns.nfkd < 2 ^ 32
