-- What is asked of character data as a whole: full decompositions (The Unicode Standard, section 3.7, D65 and D68), of
-- which the canonical one lies within the compatibility one. A text in NFD or NFKD is then stream-safe where its source
-- is, and is its own form.
use Rattle.std.specs.Prelude.{◌≡◌, ℕ, List, [], ◌∷◌, flat_map, IsTrue}
use Rattle.std.specs.List.{All}
use Rattle.std.specs.Char.{IsScalar}
use Rattle.nf_forms.specs.Properties.{Properties, is_nonstarter}
use Rattle.nf_forms.specs.Order.{order}
use Rattle.nf_forms.specs.Sound.{is_sound}

-- each member is its own row
abbrev pub IsFull : (ℕ → List ℕ) → List ℕ → Type 0
IsFull row w = All (λ c. row c ≡ c ∷ []) w

-- and a scalar value (The Unicode Standard, section 3.9, D76)
abbrev pub IsFullText : (ℕ → List ℕ) → List ℕ → Type 0
IsFullText row w = All (λ c. IsScalar c × (row c ≡ c ∷ [])) w

-- both rows of c are full
abbrev pub HasFullRows : Properties → ℕ → Type 0
HasFullRows p c = IsFullText p.canonical (p.canonical c) × IsFullText p.compat (p.compat c)

-- the compatibility rows of the members of its canonical row make up its compatibility row, both put in order
abbrev pub HasRowWithin : Properties → ℕ → Type 0
HasRowWithin p c = order p (flat_map p.compat (p.canonical c)) ≡ order p (p.compat c)

-- each non-starter is its own compatibility row
abbrev pub AreOwnMarks : Properties → List ℕ → Type 0
AreOwnMarks p w = All (λ m. IsTrue (is_nonstarter p m) → p.compat m ≡ m ∷ []) w

-- those of its canonical row are
abbrev pub HasOwnMarks : Properties → ℕ → Type 0
HasOwnMarks p c = AreOwnMarks p (p.canonical c)

pub record PassesAudit (p : Properties) (c : ℕ) : Type 0 where
  pub sound : IsTrue (is_sound p c)
  pub full : HasFullRows p c
  pub within : HasRowWithin p c
  pub marks : HasOwnMarks p c

-- every scalar value passes
abbrev pub IsAudited : Properties → Type 0
IsAudited p = (c : ℕ) → IsScalar c → PassesAudit p c
