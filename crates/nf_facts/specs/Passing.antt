-- What the class and the quick check tell of a character of Unicode's data (UAX #15, section 9), and the exceptions.
use Rattle.std.specs.Prelude.{ℕ, Bool, true, false, not, ◌&&◌, ◌==◌, List, [], ◌∷◌}
use Rattle.std.specs.List.{list_any}
use Rattle.ucd_normal.specs.declared.forms.QuickCheck.{QuickCheck}
use Rattle.ucd_normal.specs.declared.forms.QuickCheck.TheVariants.{Yes}
use Rattle.ucd_normal.specs.CanonicalCombiningClass.{canonical_combining_class}
use Rattle.ucd_normal.specs.QuickCheck.{quick_check}
use Rattle.nf_forms.specs.declared.form.Form.{Form}
use Rattle.nf_facts.specs.KitForm.{kit_form}

abbrev pub is_among : List ℕ → ℕ → Bool
is_among cs c = list_any (λ x. c == x) cs

-- the halfwidth katakana voiced and semi-voiced sound marks: starters whose compatibility rows are non-starters
abbrev pub halfwidth_marks : List ℕ
halfwidth_marks = 0xFF9E ∷ 0xFF9F ∷ []

-- starters whose canonical rows are non-starters: vowel signs of Tibetan
abbrev pub vowel_signs : List ℕ
vowel_signs = 0xF73 ∷ 0xF75 ∷ 0xF81 ∷ []

-- non-starters with canonical rows of their own: two tone marks and two marks of Greek
abbrev pub mapped_marks : List ℕ
mapped_marks = 0x340 ∷ 0x341 ∷ 0x343 ∷ 0x344 ∷ []

-- those of all that compose with a character before them
abbrev pub composing_classes : List ℕ
composing_classes = 0 ∷ 1 ∷ 7 ∷ 8 ∷ 9 ∷ 91 ∷ 202 ∷ 216 ∷ 220 ∷ 230 ∷ 240 ∷ []

abbrev pub is_yes : QuickCheck → Bool
is_yes Yes = true
is_yes _ = false

-- a starter that passes the quick check of the form, and is no halfwidth mark
abbrev pub passes_check : Form → ℕ → Bool
passes_check f c = (canonical_combining_class c == 0 && is_yes (quick_check (kit_form f) c)) && not (is_among halfwidth_marks c)
