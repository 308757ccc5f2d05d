-- The bytes that part a line of a vector file (the layout of NormalizationTest.txt).
use Rattle.std.specs.Prelude.{ℕ, ◌-◌, Bool, ◌||◌, ◌==◌, List, length, take, drop}
use Rattle.std.specs.List.{before_first, prefix_len, suffix_len, slice_split}

-- LF, which ends a line
abbrev pub is_line_end : ℕ → Bool
is_line_end b = b == 0x0A

-- '#', from which on a line is a comment
abbrev pub is_hash : ℕ → Bool
is_hash b = b == 0x23

-- ';', between columns
abbrev pub is_semicolon : ℕ → Bool
is_semicolon b = b == 0x3B

-- a space or a tab, between words
abbrev pub is_gap : ℕ → Bool
is_gap b = b == 0x20 || b == 0x09

-- a gap or CR, which count for nothing at the ends of a line
abbrev pub is_blank : ℕ → Bool
is_blank b = is_gap b || b == 0x0D

-- without the blanks at both ends
abbrev pub without_blanks_after : List ℕ → List ℕ
without_blanks_after bytes = take (length bytes - suffix_len is_blank bytes) bytes

abbrev pub trimmed : List ℕ → List ℕ
trimmed bytes = without_blanks_after (drop (prefix_len is_blank bytes) bytes)

-- what a line says: without its comment and the blanks at its ends
abbrev pub content : List ℕ → List ℕ
content line = trimmed (before_first is_hash line)

-- the lines of a file: each ended by LF, and the last, perhaps empty, by the end of the file
abbrev pub lines_of : List ℕ → List (List ℕ)
lines_of bytes = slice_split is_line_end bytes
