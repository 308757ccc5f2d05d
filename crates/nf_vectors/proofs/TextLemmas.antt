-- The columns of a suite whose text grows.
use Rattle.nf_vectors.proofs.Common.{nat_tests, ◌≡◌, ℕ, ◌≤◌, List, [], ◌∷◌, ◌++◌, length, slice_range, refl, arith, length-append, length-drop, drop-append-le, take-append-le, Entry, columns_at, rows_in, AreWithin}
use Rattle.nf_vectors.specs.declared.columns.Ends.{Ends}

pub slice_range-append : (xs ys : List ℕ) (i j : ℕ) → i ≤ j → j ≤ length xs → slice_range (xs ++ ys) i j ≡ slice_range xs i j
slice_range-append xs ys i j order within = grind (arith, drop-append-le, take-append-le, length-drop)

pub columns_at-append : (text more : List ℕ) (ends : Ends) → ends.nfkd ≤ length text → columns_at (text ++ more) ends ≡ columns_at text ends
columns_at-append text more ends within = grind (arith, slice_range-append)

pub rows_in-append : (text more : List ℕ) (entries : List Entry) → AreWithin text entries → rows_in (text ++ more) entries ≡ rows_in text entries
rows_in-append text more [] within = refl
rows_in-append text more (entry ∷ entries) within = grind (arith, nat_tests, columns_at-append text more entry.columns, rows_in-append text more entries)

pub AreWithin-append : (text more : List ℕ) (entries : List Entry) → AreWithin text entries → AreWithin (text ++ more) entries
AreWithin-append text more [] within = within
AreWithin-append text more (entry ∷ entries) within = grind (arith, nat_tests, AreWithin-append text more entries, length-append)
