-- Where a decoder stands among the bytes, and what it answers to the next.
use Rattle.std.specs.Prelude.{◌≡◌, ℕ, ◌+◌, ◌-◌, ◌==◌, List, [], ◌∷◌, ◌++◌, length, if◌then◌else◌}
use Rattle.nf_utf8.specs.declared.decoder.Decoder.{Decoder}
use Rattle.nf_utf8.specs.declared.step.Step.{Step}
use Rattle.nf_utf8.specs.declared.step.Step.TheVariants.{More, Char, Bad as BadByte}
use Rattle.nf_utf8.specs.Text.{BeginsText}
use Rattle.nf_utf8.specs.Ending.{Ending, Whole, Bad, Cut}
use Rattle.nf_utf8.specs.Reading.{text_len, text_of, rest_of, ending_of}

-- since it was made or last answered that a byte is bad it was given these bytes, and it holds those after
-- their text
pub record StandsAfter (decoder : Decoder) (bytes : List ℕ) : Type 0 where
  pub rest : rest_of bytes ≡ decoder
  pub begins : BeginsText bytes

-- what the step says of `byte` after these bytes, which begin a text
abbrev pub Answers : List ℕ → ℕ → Step → Type 0
Answers bytes byte More = (text_of (bytes ++ byte ∷ []) ≡ text_of bytes)
    × (ending_of (bytes ++ byte ∷ []) ≡ Cut (length bytes + 1) (text_len bytes))
Answers bytes byte (Char c) = (text_of (bytes ++ byte ∷ []) ≡ text_of bytes ++ c ∷ [])
    × (ending_of (bytes ++ byte ∷ []) ≡ Whole)
Answers bytes byte (BadByte back) = (text_of (bytes ++ byte ∷ []) ≡ text_of bytes)
    × (ending_of (bytes ++ byte ∷ []) ≡ Bad (length bytes) (text_len bytes))
    × (text_len bytes + back ≡ length bytes)

-- the bytes that a decoder stands after then
abbrev pub bytes_after : List ℕ → ℕ → Step → List ℕ
bytes_after bytes byte More = bytes ++ byte ∷ []
bytes_after bytes byte (Char c) = bytes ++ byte ∷ []
bytes_after bytes byte (BadByte back) = []

-- the ending of bytes that begin a text, by their length and how many of them a decoder holds
abbrev pub ending_at : ℕ → ℕ → Ending
ending_at len held = if held == 0 then Whole else Cut len (len - held)
