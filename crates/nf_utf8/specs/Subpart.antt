-- The bytes of a begun character (The Unicode Standard, section 3.9, Table 3-7).
use Rattle.std.specs.Prelude.{ℕ, List, [], ◌∷◌}
use Rattle.std.specs.Int.{IsInRange}
use Rattle.std.specs.Str.Lossy.{second_byte_min, second_byte_max}

-- b may be the second byte where a is the first
abbrev pub IsSecond : ℕ → ℕ → Type 0
IsSecond a b = IsInRange (second_byte_min a) (second_byte_max a) b

-- a third or fourth byte
abbrev pub IsContinuation : ℕ → Type 0
IsContinuation c = IsInRange 0x80 0xBF c

-- a row of the table without its last byte or more, or no bytes
abbrev pub IsSubpart : List ℕ → Type 0
IsSubpart [] = Unit {0}
IsSubpart (a ∷ []) = IsInRange 0xC2 0xF4 a
IsSubpart (a ∷ b ∷ []) = IsInRange 0xE0 0xF4 a × IsSecond a b
IsSubpart (a ∷ b ∷ c ∷ []) = IsInRange 0xF0 0xF4 a × IsSecond a b × IsContinuation c
IsSubpart (a ∷ b ∷ c ∷ d ∷ rest) = ⊥
