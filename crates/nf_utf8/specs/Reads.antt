-- What a reading is, with no word of how it is found (The Unicode Standard, section 3.9, D84 to D86 and D92).
use Rattle.std.specs.Prelude.{◌≡◌, ℕ, ◌+◌, ◌<◌, List, ◌++◌, length, take, encode_utf8_all}
use Rattle.nf_utf8.specs.Text.{IsText, BeginsText}
use Rattle.nf_utf8.specs.Ending.{Ending, Whole, Bad, Cut}

-- a front of the bytes spells this text, and each text that a front spells is a front of it
pub record IsLongestText (bytes text : List ℕ) : Type 0 where
  pub scalars : IsText text
  pub spelled : (rest : List ℕ) × (bytes ≡ encode_utf8_all text ++ rest)
  pub longest : (other rest : List ℕ) → IsText other → bytes ≡ encode_utf8_all other ++ rest → (more : List ℕ) × (text ≡ other ++ more)

-- the byte at `at` is the first with which the bytes begin no text
pub record IsBadAt (bytes : List ℕ) (at : ℕ) : Type 0 where
  pub inside : at < length bytes
  pub before : BeginsText (take at bytes)
  pub here : ¬ BeginsText (take (at + 1) bytes)

-- the bytes end at `at`, after the text and inside a character
pub record IsCutAt (bytes text : List ℕ) (at : ℕ) : Type 0 where
  pub end : at ≡ length bytes
  pub more : length (encode_utf8_all text) < at
  pub begins : BeginsText bytes

-- how the bytes end after the text at their front
abbrev pub EndsAs : List ℕ → List ℕ → Ending → Type 0
EndsAs bytes text Whole = bytes ≡ encode_utf8_all text
EndsAs bytes text (Bad at start) = IsBadAt bytes at × (start ≡ length (encode_utf8_all text))
EndsAs bytes text (Cut at start) = IsCutAt bytes text at × (start ≡ length (encode_utf8_all text))

pub record Reads (bytes text : List ℕ) (ending : Ending) : Type 0 where
  pub front : IsLongestText bytes text
  pub end : EndsAs bytes text ending
