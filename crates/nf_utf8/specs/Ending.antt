-- How bytes end after the text at their front (The Unicode Standard, section 3.9, D84 to D86).
use Rattle.std.specs.Prelude.{ℕ, ◌+◌}

-- with that text; at a bad byte; or inside a character. `at` is how many bytes stand before the bad byte or the
-- end, and `start` how many before the character that is broken off there
pub data Ending : Type 0 where
  Whole : Ending
  Bad : (at start : ℕ) → Ending
  Cut : (at start : ℕ) → Ending

-- the ending where n more bytes stand before
abbrev pub moved : ℕ → Ending → Ending
moved n Whole = Whole
moved n (Bad at start) = Bad (n + at) (n + start)
moved n (Cut at start) = Cut (n + at) (n + start)
