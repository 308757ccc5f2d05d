-- The data of the Unicode Character Database under changes.
use Rattle.std.specs.Prelude.{ℕ, List, Option, Some, None, unwrap_or}
use Rattle.std.specs.Borrow.{Bor}
use Rattle.nf_row.specs.declared.patched.Change.{Change}
use Rattle.nf_row.specs.declared.patched.Patched.{Patched}
use Rattle.nf_forms.specs.Properties.{Properties}
use Rattle.nf_forms.specs.Ucd.{ucd}
use Rattle.nf_row.specs.Changes.{first_change, class_in, canonical_in, compat_in, pair_in, assigned_in}

abbrev pub changes_of : Patched → List Change
changes_of patched = patched.changes.now

abbrev pub row_or : Option (Bor (List ℕ)) → List ℕ → List ℕ
row_or (Some row) other = row.now
row_or None other = other

abbrev pub changed : List Change → Properties
changed changes = record {
  class = λ c. unwrap_or (first_change (class_in c) changes) (ucd.class c);
  canonical = λ c. row_or (first_change (canonical_in c) changes) (ucd.canonical c);
  compat = λ c. row_or (first_change (compat_in c) changes) (ucd.compat c);
  pair = λ a b. unwrap_or (first_change (pair_in a b) changes) (ucd.pair a b);
  assigned = λ c. unwrap_or (first_change (assigned_in c) changes) (ucd.assigned c);
}

abbrev pub patched : Patched → Properties
patched value = changed (changes_of value)
