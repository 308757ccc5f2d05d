-- A character of which normalization changes nothing: its own row, unmarked, assigned, second in no composite.
use Rattle.std.specs.Prelude.{◌≡◌, ℕ, IsTrue, [], ◌∷◌, None}
use Rattle.nf_forms.specs.Properties.{Properties}

pub record IsPlain (p : Properties) (c : ℕ) : Type 0 where
  pub class : p.class c ≡ 0
  pub canonical : p.canonical c ≡ c ∷ []
  pub compat : p.compat c ≡ c ∷ []
  pub never_second : (a : ℕ) → p.pair a c ≡ None
  pub assigned : IsTrue (p.assigned c)
