-- Where a checker stands in the text that it sees.
use Rattle.std.specs.Prelude.{◌≡◌, ℕ, ◌+◌, true, List, ◌++◌, length, chars, Option, Some, None, IsNone, IsTrue, if◌then◌else◌, encode_utf8_all}
use Rattle.std.specs.List.{list_all}
use Rattle.nf_forms.specs.Properties.{Properties}
use Rattle.nf_forms.specs.Sound.{is_sound}
use Rattle.nf_forms.specs.declared.form.Form.TheVariants.{Nfkd}
use Rattle.nf_forms.specs.Runs.{trail}
use Rattle.nf_forms.specs.Forms.{decomposed}
use Rattle.nf_safe.specs.declared.place.Place.{Place}
use Rattle.nf_safe.specs.declared.checker.Checker.{Checker}
use Rattle.nf_safe.specs.Place.{is_in_format, place_from}

-- the place that it found
abbrev pub place_of : Checker → Option Place
place_of checker = if checker.is_over then Some checker.reached else None

-- the offset of the end of what it saw, and from a place on that of the place
abbrev pub offset_of : Checker → ℕ
offset_of checker = checker.reached.bytes

-- a checker that was made at `base` and has seen the characters x
pub record StandsAfter (base : ℕ) (p : Properties) (checker : Checker) (x : List ℕ) : Type 0 where
  pub place : place_of checker ≡ place_from base p x
  pub in_format : IsNone (place_of checker) → IsTrue (is_in_format p x)
  pub offset : IsNone (place_of checker) → offset_of checker ≡ base + length (encode_utf8_all x)
  pub chars : IsNone (place_of checker) → checker.reached.chars ≡ length x
  pub count : IsNone (place_of checker) → checker.counter ≡ trail p (decomposed Nfkd p x)

-- after x it has seen a front of the text, all of it sound, and this is the rest
pub record HasSeen (base : ℕ) (p : Properties) (checker : Checker) (x text rest : List ℕ) : Type 0 where
  pub front : List ℕ
  pub is_front : chars text ≡ front ++ chars rest
  pub sound : list_all (is_sound p) front ≡ true
  pub stands : StandsAfter base p checker (x ++ front)
