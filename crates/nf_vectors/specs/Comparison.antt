-- The comparisons that a row of NormalizationTest.txt asks for.
use Rattle.std.specs.Prelude.{ℕ, Bool, true, false, not, ◌&&◌, ◌||◌, List, [], ◌∷◌, Option, is_some, if◌then◌else◌, bytes_eq, find}
use Rattle.nf_forms.specs.Properties.{Properties}
use Rattle.nf_forms.specs.declared.form.Form.{Form}
use Rattle.nf_forms.specs.declared.form.Form.TheVariants.{Nfc, Nfd, Nfkc, Nfkd}
use Rattle.nf_safe.specs.Place.{place}
use Rattle.nf_forms.specs.SafeForm.{safe_form}
use Rattle.nf_filter.specs.Checks.{sound_front}
use Rattle.nf_filter.specs.Settled.{is_usable}
use Rattle.nf_vectors.specs.declared.columns.Column.{Column}
use Rattle.nf_vectors.specs.declared.columns.Column.TheVariants as columns
use Rattle.nf_vectors.specs.Columns.{Columns, at}

-- the characters of the column's stream-safe text are sound, and its form is this
abbrev pub holds : Form → Properties → List ℕ → List ℕ → Bool
holds f p column expected = is_usable p column && bytes_eq (safe_form f p column) expected

abbrev pub is_compat : Column → Bool
is_compat columns.Nfkc = true
is_compat columns.Nfkd = true
is_compat _ = false

-- the column whose text the form must give of another: of the last two the compatibility form alone
abbrev pub expected : Form → Column → Column
expected Nfc column = if is_compat column then columns.Nfkc else columns.Nfc
expected Nfd column = if is_compat column then columns.Nfkd else columns.Nfd
expected Nfkc column = columns.Nfkc
expected Nfkd column = columns.Nfkd

abbrev pub holds_at : Form → Properties → Columns → Column → Bool
holds_at f p row column = holds f p (at row column) (at row (expected f column))

-- the first column of which the comparison does not hold
abbrev pub failing_column : Form → Properties → Columns → Option Column
failing_column f p row = find (λ column. not (holds_at f p row column)) (columns.Source ∷ columns.Nfc ∷ columns.Nfd ∷ columns.Nfkc ∷ columns.Nfkd ∷ [])

-- what stands before its first unsound character leaves the Stream-Safe Text Format (UAX #15, section 13)
abbrev pub leaves_format : Properties → List ℕ → Bool
leaves_format p column = is_some (place p (sound_front p column))

-- a row is skipped where one of its columns does
abbrev pub is_skipped : Properties → Columns → Bool
is_skipped p columns = leaves_format p columns.source || leaves_format p columns.nfc || leaves_format p columns.nfd || leaves_format p columns.nfkc || leaves_format p columns.nfkd
