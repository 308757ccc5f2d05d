-- The text that bytes give where each maximal subpart of an ill-formed sequence is read as U+FFFD (The Unicode Standard,
-- section 3.9, "Substitution of Maximal Subparts").
use Rattle.std.specs.Prelude.{ℕ, zero, suc, ◌+◌, ◌-◌, ◌==◌, List, [], ◌∷◌, ◌++◌, map, length, take, drop, if◌then◌else◌, encode_utf8}
use Rattle.nf_utf8.specs.Ending.{Ending, Whole, Bad, Cut}
use Rattle.nf_utf8.specs.Reading.{text_of, ending_of}

-- a character, and how many bytes gave it
pub record Decoded : Type 0 where
  pub char : ℕ
  pub len : ℕ

abbrev pub replacement : ℕ
replacement = 0xFFFD

-- the characters of a text, each given by its own bytes
abbrev pub decoded_text : List ℕ → List Decoded
decoded_text x = map (λ c. record { char = c; len = length (encode_utf8 c) }) x

-- where the maximal subpart before a bad byte ends: before that byte, which begins the next; a byte that begins nothing
-- is one by itself
abbrev pub subpart_end : (at start : ℕ) → ℕ
subpart_end at start = if at == start then start + 1 else at

-- what stands after the text of bytes, by their ending; `after n` is what the bytes from the n-th on give.
-- Bytes of a character that the end cuts give nothing yet
abbrev pub decoded_after_text : Ending → (ℕ → List Decoded) → List Decoded
decoded_after_text Whole after = []
decoded_after_text (Cut at start) after = []
decoded_after_text (Bad at start) after = record { char = replacement; len = subpart_end at start - start } ∷ after (subpart_end at start)

-- what the bytes give, where they have fewer than k ill-formed subparts
abbrev pub decoded_within : ℕ → List ℕ → List Decoded
decoded_within zero bytes = []
decoded_within (suc k) bytes = decoded_text (text_of bytes) ++ decoded_after_text (ending_of bytes) (λ n. decoded_within k (drop n bytes))

unfoldable pub decoded_of : List ℕ → List Decoded
decoded_of bytes = decoded_within (suc (length bytes)) bytes

-- the text that the bytes give so far
unfoldable pub replaced : List ℕ → List ℕ
replaced bytes = map (λ decoded. decoded.char) (decoded_of bytes)

-- how many bytes gave these
abbrev pub bytes_in : List Decoded → ℕ
bytes_in [] = 0
bytes_in (decoded ∷ rest) = decoded.len + bytes_in rest

-- how many bytes gave the first n characters
unfoldable pub replaced_len : ℕ → List ℕ → ℕ
replaced_len n bytes = bytes_in (take n (decoded_of bytes))

-- how many bytes gave the first n bytes of the UTF-8 of these
abbrev pub source_in : List Decoded → ℕ → ℕ
source_in [] n = 0
source_in (decoded ∷ rest) n = if n == 0 then 0 else decoded.len + source_in rest (n - length (encode_utf8 decoded.char))

-- how many bytes at the end begin a character (0 to 3)
abbrev pub begun_at_end : List ℕ → ℕ
begun_at_end bytes = length bytes - bytes_in (decoded_of bytes)

-- the text where nothing follows: a character that the end cuts is read as U+FFFD
unfoldable pub replaced_whole : List ℕ → List ℕ
replaced_whole bytes = replaced bytes ++ (if begun_at_end bytes == 0 then [] else replacement ∷ [])
