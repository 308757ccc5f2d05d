-- What a piece gives after the bytes that a decoder stands after (The Unicode Standard, section 3.9).
use Rattle.std.specs.Prelude.{◌≡◌, ℕ, ◌+◌, ◌-◌, ◌<◌, ◌≤◌, ◌⊎◌, List, [], ◌∷◌, ◌++◌, length, Option, Some, None, IsUtf8, chars, encode_utf8}
use Rattle.nf_utf8.specs.declared.chunk.End.{End}
use Rattle.nf_utf8.specs.declared.chunk.End.TheVariants.{Whole, Cut, Bad}
use Rattle.nf_utf8.specs.Ending.{Whole as IsWhole, Cut as IsCut, Bad as IsBad}
use Rattle.nf_utf8.specs.Reading.{text_len, text_of, rest_of, ending_of}

-- the first character as a text, its bytes, and how many of them are in the piece, where these of them came before
abbrev pub first_text : Option ℕ → List ℕ
first_text None = []
first_text (Some c) = c ∷ []

abbrev pub first_bytes : Option ℕ → List ℕ
first_bytes None = []
first_bytes (Some c) = encode_utf8 c

abbrev pub first_len : List ℕ → Option ℕ → ℕ
first_len held None = 0
first_len held (Some c) = length (encode_utf8 c) - length held

-- a character was begun and is the first, or none was, or it is not completed and there is no text
abbrev pub IsFirst : List ℕ → Option ℕ → List ℕ → Type 0
IsFirst held None text = (held ≡ []) ⊎ (text ≡ [])
IsFirst held (Some c) text = ¬ (held ≡ [])

-- what the piece's end says of all the bytes
abbrev pub EndsPiece : List ℕ → List ℕ → End → Type 0
EndsPiece bytes piece Whole = ending_of (bytes ++ piece) ≡ IsWhole
EndsPiece bytes piece Cut = ending_of (bytes ++ piece) ≡ IsCut (length bytes + length piece) (text_len (bytes ++ piece))
EndsPiece bytes piece (Bad at back) = (ending_of (bytes ++ piece) ≡ IsBad (length bytes + at) (text_len (bytes ++ piece)))
    × (text_len (bytes ++ piece) + back ≡ length bytes + at) × (at < length piece)

-- what the piece gives after these bytes, which begin a text
pub record Takes (bytes piece : List ℕ) (first : Option ℕ) (text : List ℕ) (end : End) : Type 0 where
  pub spelled : text_of (bytes ++ piece) ≡ text_of bytes ++ first_text first ++ chars text
  pub well_formed : IsUtf8 text
  pub begun : IsFirst (rest_of bytes) first text
  pub ends : EndsPiece bytes piece end
  -- where it stands
  pub placed : rest_of bytes ++ piece ≡ first_bytes first ++ text ++ rest_of (bytes ++ piece)
  pub len : text_len (bytes ++ piece) ≡ text_len bytes + length (first_bytes first) + length text

-- the end where the piece is used up and these bytes are held
abbrev pub end_holding : List ℕ → End
end_holding [] = Whole
end_holding (a ∷ held) = Cut

-- the bytes that a decoder stands after then
abbrev pub bytes_after_piece : List ℕ → List ℕ → End → List ℕ
bytes_after_piece bytes piece Whole = bytes ++ piece
bytes_after_piece bytes piece Cut = bytes ++ piece
bytes_after_piece bytes piece (Bad at back) = []

-- the bytes of the first character, of the text and of what is after it are those held before and those of the piece,
-- or of the piece those before the bad byte; `left` is what is held then
abbrev pub Counts : List ℕ → List ℕ → Option ℕ → List ℕ → End → List ℕ → Type 0
Counts held piece first text Whole left = (length (first_bytes first) + length text ≡ length held + length piece) × (left ≡ [])
Counts held piece first text Cut left = (length (first_bytes first) + length text + length left ≡ length held + length piece) × (0 < length left)
Counts held piece first text (Bad at back) left = (length (first_bytes first) + length text + back ≡ length held + at) × (at < length piece) × (back ≤ 3) × (left ≡ [])
