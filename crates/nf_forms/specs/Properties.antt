-- What a source of character data says of each code point (The Unicode Standard, section 3.11).
use Rattle.std.specs.Prelude.{ℕ, ◌==◌, Bool, not, List, Option}

pub record Properties : Type 0 where
  pub class : ℕ → ℕ  -- the canonical combining class (D104)
  pub canonical : ℕ → List ℕ  -- the full canonical decomposition (D68)
  pub compat : ℕ → List ℕ  -- the full compatibility decomposition (D65)
  pub pair : ℕ → ℕ → Option ℕ  -- what the table of composites has for two code points
  pub assigned : ℕ → Bool  -- the general category is not Cn

-- D107: a code point of class 0
abbrev pub is_starter : Properties → ℕ → Bool
is_starter p c = p.class c == 0

abbrev pub is_nonstarter : Properties → ℕ → Bool
is_nonstarter p c = not (is_starter p c)
