-- What one look-up tells of a character of Unicode's data (UAX #15, section 9).
use Rattle.std.specs.Prelude.{◌≡◌, ℕ, ◌+◌, ◌*◌, ◌||◌, List, ◌∷◌, chars, if◌then◌else◌}
use Rattle.ucd_normal.specs.declared.forms.Form.TheVariants.{Nfd, Nfkd, Nfc, Nfkc}
use Rattle.ucd_normal.specs.CanonicalCombiningClass.{canonical_combining_class}
use Rattle.ucd_normal.specs.QuickCheck.{quick_check, quick_check_number}
use Rattle.nf_facts.specs.Passing.{is_among, halfwidth_marks, vowel_signs}
use Rattle.nf_entry.specs.declared.entry.Entry.{Entry}

-- the class in the low byte; above it the answers of the quick checks, and whether the compatibility row of a starter begins
-- with a non-starter
unfoldable pub entry_bits : ℕ → ℕ
entry_bits c =
    canonical_combining_class c
    + 256 * (quick_check_number (quick_check Nfd c)
    + 2 * (if is_among halfwidth_marks c || is_among vowel_signs c then 1 else 0)
    + 4 * quick_check_number (quick_check Nfkd c)
    + 16 * (quick_check_number (quick_check Nfc c) + 4 * quick_check_number (quick_check Nfkc c)))

-- it is that of the code point
abbrev pub IsEntry : ℕ → Entry → Type 0
IsEntry c entry = entry.bits ≡ entry_bits c

-- it is that of the first character of the text
pub record IsOfFirst (text : List ℕ) (entry : Entry) : Type 0 where
  pub first : ℕ
  pub others : List ℕ
  pub begins : chars text ≡ first ∷ others
  pub is_entry : IsEntry first entry
