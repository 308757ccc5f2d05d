-- The characters that no row of Part 1 lists, which normalization must not change (the conditions of
-- NormalizationTest.txt).
use Rattle.std.specs.Prelude.{ℕ, zero, suc, Bool, not, ◌&&◌, List, [], ◌∷◌, ◌++◌, bytes_eq, count_by, find}
use Rattle.std.specs.List.{list_any}
use Rattle.nf_forms.specs.Properties.{Properties}
use Rattle.nf_forms.specs.declared.form.Form.TheVariants.{Nfc, Nfd, Nfkc, Nfkd}
use Rattle.nf_vectors.specs.declared.sweep.Sweep.{Sweep}
use Rattle.nf_vectors.specs.Words.{is_scalar}
use Rattle.nf_vectors.specs.Suite.{VectorRow}
use Rattle.nf_vectors.specs.Comparison.{holds}

-- the row is in Part 1, and c is the only code point of its first column
abbrev pub lists : ℕ → VectorRow → Bool
lists c row = row.in_part1 && bytes_eq row.columns.source (c ∷ [])

abbrev pub is_listed : List VectorRow → ℕ → Bool
is_listed rows c = list_any (lists c) rows

abbrev pub is_unlisted : List VectorRow → ℕ → Bool
is_unlisted rows c = is_scalar c && not (is_listed rows c)

-- no form changes the text of c alone
abbrev pub is_unchanged : Properties → ℕ → Bool
is_unchanged p c = holds Nfc p (c ∷ []) (c ∷ []) && holds Nfd p (c ∷ []) (c ∷ []) && holds Nfkc p (c ∷ []) (c ∷ []) && holds Nfkd p (c ∷ []) (c ∷ [])

abbrev pub is_failed : Properties → List VectorRow → ℕ → Bool
is_failed p rows c = is_unlisted rows c && not (is_unchanged p c)

-- the numbers below n, in order
unfoldable pub below : ℕ → List ℕ
below zero = []
below (suc n) = below n ++ n ∷ []

-- of the scalar values below n: how many are not listed, how many of these a form changes, and the least of them
abbrev pub sweep_below : Properties → List VectorRow → ℕ → Sweep
sweep_below p rows n = record {
  unlisted = count_by (is_unlisted rows) (below n);
  failed = count_by (is_failed p rows) (below n);
  first = find (is_failed p rows) (below n);
}

unfoldable pub sweep_of : Properties → List VectorRow → Sweep
sweep_of p rows = sweep_below p rows 0x110000
