-- Reading bytes: the text at their front and their ending (The Unicode Standard, section 3.9, D92 and Table 3-7).
use Rattle.std.specs.Prelude.{ℕ, ◌+◌, ◌==◌, List, length, take, drop, slice_index, if◌then◌else◌}
use Rattle.std.specs.Int.{is_in_range}
use Rattle.std.specs.Str.{chars}
use Rattle.std.specs.Str.Lossy.{utf8_valid_len, utf8_invalid_len}
use Rattle.nf_utf8.specs.Ending.{Ending, Whole, Bad, Cut}

-- the length of the longest front that is well-formed
abbrev pub text_len : List ℕ → ℕ
text_len bytes = utf8_valid_len bytes

-- the text that this front spells
unfoldable pub text_of : List ℕ → List ℕ
text_of bytes = chars (take (text_len bytes) bytes)

-- the bytes after it
unfoldable pub rest_of : List ℕ → List ℕ
rest_of bytes = drop (text_len bytes) bytes

-- of bytes that begin with no character: how many of them begin one
abbrev pub subpart_len : List ℕ → ℕ
subpart_len rest = if is_in_range 0xC2 0xF4 (slice_index rest 0) then utf8_invalid_len rest else 0

-- the length of the longest front that begins a text
abbrev pub begun_len : List ℕ → ℕ
begun_len bytes = text_len bytes + subpart_len (drop (text_len bytes) bytes)

unfoldable pub ending_of : List ℕ → Ending
ending_of bytes = if text_len bytes == length bytes then Whole
    else (if begun_len bytes == length bytes then Cut (begun_len bytes) (text_len bytes) else Bad (begun_len bytes) (text_len bytes))
