-- What a suite holds.
use Rattle.std.specs.Prelude.{◌≡◌, true, ℕ, Bool, nat_le, List, length, map}
use Rattle.std.specs.List.{list_all}
use Rattle.nf_vectors.specs.declared.suite.Suite.{Suite}
use Rattle.nf_vectors.specs.declared.suite.Entry.{Entry}
use Rattle.nf_vectors.specs.Held.{columns_at}
use Rattle.nf_vectors.specs.Suite.{VectorRow}

abbrev pub row_of : List ℕ → Entry → VectorRow
row_of text entry = record { line = entry.line; in_part1 = entry.in_part1; columns = columns_at text entry.columns }

-- the rows stand in the text
abbrev pub AreWithin : List ℕ → List Entry → Type 0
AreWithin text entries = list_all (λ entry. nat_le entry.columns.nfkd (length text)) entries ≡ true

-- the rows in the order of the file
abbrev pub rows_in : List ℕ → List Entry → List VectorRow
rows_in text entries = map (row_of text) entries

unfoldable pub rows_of : Suite → List VectorRow
rows_of suite = rows_in suite.text.items suite.entries.items

-- whether some line names Part 1
abbrev pub has_part1_of : Suite → Bool
has_part1_of suite = suite.has_part1
