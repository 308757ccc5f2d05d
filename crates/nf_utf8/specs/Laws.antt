-- Laws of reading. `src/laws.rt` has each as a contract.
use Rattle.std.specs.Prelude.{◌≡◌, ℕ, ◌+◌, ◌-◌, ◌≤◌, List, ◌∷◌, ◌++◌, map, length, drop, Option, chars, encode_utf8_all}
use Rattle.std.specs.Str.Lossy.{utf8_lossy}
use Rattle.nf_utf8.specs.declared.chunk.End.{End}
use Rattle.nf_utf8.specs.Text.{IsText, BeginsText}
use Rattle.nf_utf8.specs.Ending.{Ending, Bad, moved}
use Rattle.nf_utf8.specs.Reading.{text_len, text_of, rest_of, ending_of}
use Rattle.nf_utf8.specs.Reads.{Reads}
use Rattle.nf_utf8.specs.Taking.{first_text, Takes}
use Rattle.nf_utf8.specs.Pushes.{Pushes}
use Rattle.nf_utf8.specs.Replaced.{Decoded, replacement, decoded_text, subpart_end, decoded_of, replaced, bytes_in, begun_at_end, replaced_whole}

-- bytes read as the longest text that a front of them spells, with their ending, and as nothing else
pub record ReadsLongestText : Type 0 where
  pub reads : (bytes : List ℕ) → Reads bytes (text_of bytes) (ending_of bytes)
  pub only : (bytes text : List ℕ) (ending : Ending) → Reads bytes text ending → (text ≡ text_of bytes) × (ending ≡ ending_of bytes)

-- bytes in two: their text, and the rest
pub record SplitsBytes : Type 0 where
  pub split : (bytes : List ℕ) → bytes ≡ encode_utf8_all (text_of bytes) ++ rest_of bytes
  pub scalars : (bytes : List ℕ) → IsText (text_of bytes)
  pub len : (bytes : List ℕ) → length (encode_utf8_all (text_of bytes)) ≡ text_len bytes

-- the bytes of a text read as that text, and what is after them as if it stood alone
pub record ReadsBack : Type 0 where
  pub text : (text bytes : List ℕ) → IsText text → text_of (encode_utf8_all text ++ bytes) ≡ text ++ text_of bytes
  pub rest : (text bytes : List ℕ) → IsText text → rest_of (encode_utf8_all text ++ bytes) ≡ rest_of bytes
  pub ending : (text bytes : List ℕ) → IsText text → ending_of (encode_utf8_all text ++ bytes) ≡ moved (length (encode_utf8_all text)) (ending_of bytes)

-- a piece is read after the rest of what came before: where the bytes are cut into pieces does not matter, and
-- no character is taken back
pub record ReadsPieces : Type 0 where
  pub text : (bytes piece : List ℕ) → text_of (bytes ++ piece) ≡ text_of bytes ++ text_of (rest_of bytes ++ piece)
  pub rest : (bytes piece : List ℕ) → rest_of (bytes ++ piece) ≡ rest_of (rest_of bytes ++ piece)
  pub ending : (bytes piece : List ℕ) → ending_of (bytes ++ piece) ≡ moved (text_len bytes) (ending_of (rest_of bytes ++ piece))
  -- nothing after a bad byte is read
  pub bad_text : (bytes piece : List ℕ) (at start : ℕ) → ending_of bytes ≡ Bad at start → text_of (bytes ++ piece) ≡ text_of bytes
  pub bad_ending : (bytes piece : List ℕ) (at start : ℕ) → ending_of bytes ≡ Bad at start → ending_of (bytes ++ piece) ≡ Bad at start

-- a piece gives what its bytes give when they are pushed one by one
pub record TakesAsPushed : Type 0 where
  pub text : (bytes piece text taken : List ℕ) (first : Option ℕ) (end stop : End) → BeginsText bytes → Pushes bytes bytes piece text end → Takes bytes piece first taken stop → text ≡ first_text first ++ chars taken
  pub end : (bytes piece text taken : List ℕ) (first : Option ℕ) (end stop : End) → BeginsText bytes → Pushes bytes bytes piece text end → Takes bytes piece first taken stop → end ≡ stop

-- bytes read with one U+FFFD for each maximal subpart of an ill-formed sequence
pub record ReplacesSubparts : Type 0 where
  -- bytes that begin a text give that text
  pub begun : (bytes : List ℕ) → BeginsText bytes → decoded_of bytes ≡ decoded_text (text_of bytes)
  -- others give the text before the bad byte, one part for what it breaks off, and what stands after that part
  pub bad : (bytes more : List ℕ) (at start : ℕ) → ending_of bytes ≡ Bad at start
      → decoded_of (bytes ++ more) ≡ decoded_text (text_of bytes) ++ record { char = replacement; len = subpart_end at start - start } ∷ decoded_of (drop (subpart_end at start) (bytes ++ more))
  pub own_len : (x : List ℕ) → bytes_in (decoded_text x) ≡ length (encode_utf8_all x)
  pub own_chars : (x : List ℕ) → map (λ decoded. decoded.char) (decoded_text x) ≡ x
  pub joined : (a b : List Decoded) → bytes_in (a ++ b) ≡ bytes_in a + bytes_in b
  pub within : (bytes : List ℕ) → bytes_in (decoded_of bytes) ≤ length bytes
  pub few : (bytes : List ℕ) → begun_at_end bytes ≤ 3
  pub text : (bytes : List ℕ) → IsText (replaced bytes)
  -- as `String::from_utf8_lossy` reads them
  pub lossy : (bytes : List ℕ) → encode_utf8_all (replaced_whole bytes) ≡ utf8_lossy bytes
