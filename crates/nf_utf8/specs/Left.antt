-- A front of bytes and what is left after it, where ill-formed ones are replaced or not (The Unicode Standard, section 3.9).
use Rattle.std.specs.Prelude.{◌≡◌, true, false, Bool, ℕ, ◌+◌, ◌<◌, ◌≤◌, ◌⊎◌, List, [], ◌++◌, map, length, drop, chars, encode_utf8_all}
use Rattle.nf_utf8.specs.Ending.{moved}
use Rattle.nf_utf8.specs.Reading.{text_of, ending_of}
use Rattle.nf_utf8.specs.Replaced.{Decoded, decoded_text, decoded_of, bytes_in}

-- the characters that bytes give: with U+FFFD for each maximal subpart of an ill-formed sequence, or up to the first bad byte
abbrev pub decoded_under : Bool → List ℕ → List Decoded
decoded_under false bytes = decoded_text (text_of bytes)
decoded_under true bytes = decoded_of bytes

-- of the bytes the first n gave the text x, whatever follows: the rest is read as if it stood alone
pub record IsLeft (replace : Bool) (bytes x : List ℕ) (n : ℕ) (left : List ℕ) : Type 0 where
  pub decoded : List Decoded
  pub chars : map (λ decoded. decoded.char) decoded ≡ x
  pub size : bytes_in decoded ≡ n
  pub own : replace ≡ false → n ≡ length (encode_utf8_all x)
  pub gives : (more : List ℕ) → decoded_under replace (bytes ++ more) ≡ decoded ++ decoded_under replace (left ++ more)
  pub ending : replace ≡ false → (more : List ℕ) → ending_of (bytes ++ more) ≡ moved n (ending_of (left ++ more))
  pub len : length bytes ≡ n + length left
  -- no more characters than bytes
  pub few : length x ≤ n

-- the next text of a piece, before which `held` stood: `len` bytes of the piece were read, and `after` is held then
pub record ReadsNext (replace : Bool) (held piece text : List ℕ) (len : ℕ) (after : List ℕ) : Type 0 where
  pub n : ℕ
  pub left : IsLeft replace (held ++ piece) (chars text) n (after ++ drop len piece)
  pub within : len ≤ length piece
  pub less : len < length piece → length after < length held + len
  -- a character that was begun is read by itself
  pub alone : (held ≡ []) ⊎ (length (chars text) ≤ 1)
