-- Data of which normalization leaves ASCII text as it is: no character of it decomposes, and no two compose.
use Rattle.std.specs.Prelude.{◌≡◌, ◌<◌, ℕ, IsTrue, List, [], ◌∷◌, None, All}
use Rattle.nf_forms.specs.Properties.{Properties}

-- c is assigned, a starter, and alone its own decompositions
pub record IsUnchanged (p : Properties) (c : ℕ) : Type 0 where
  pub class : p.class c ≡ 0
  pub assigned : IsTrue (p.assigned c)
  pub canonical : p.canonical c ≡ c ∷ []
  pub compat : p.compat c ≡ c ∷ []

-- a is first in no pair with an ASCII character
abbrev pub IsFirstInNone : Properties → ℕ → Type 0
IsFirstInNone p a = (b : ℕ) → b < 0x80 → p.pair a b ≡ None

pub record IsPlainAscii (p : Properties) : Type 0 where
  pub unchanged : (a : ℕ) → a < 0x80 → IsUnchanged p a
  pub pairs : (a : ℕ) → a < 0x80 → IsFirstInNone p a

-- a text of ASCII characters alone
abbrev pub AreAscii : List ℕ → Type 0
AreAscii cs = All (λ c. c < 0x80) cs
