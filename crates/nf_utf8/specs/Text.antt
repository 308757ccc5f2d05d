-- What a text is, and what begins one (The Unicode Standard, section 3.9, D76 and D92).
use Rattle.std.specs.Prelude.{◌≡◌, true, ℕ, List, ◌++◌, IsUtf8}
use Rattle.std.specs.Str.{all_scalars}

-- scalar values alone: 0 to D7FF and E000 to 10FFFF. Its bytes are `encode_utf8_all text`, and bytes are
-- well-formed, `IsUtf8 bytes`, where they are those of some text
abbrev pub IsText : List ℕ → Type 0
IsText text = all_scalars text ≡ true

-- some bytes after these, or none, make them well-formed
abbrev pub BeginsText : List ℕ → Type 0
BeginsText bytes = (more : List ℕ) × IsUtf8 (bytes ++ more)
