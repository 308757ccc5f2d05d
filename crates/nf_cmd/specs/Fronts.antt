-- What a writer that fails has taken: a front.
use Rattle.std.specs.Prelude.{◌≡◌, ℕ, List, ◌++◌, Option}
use Rattle.std.specs.Io.KnownBytes.{Appends}

-- known bytes grow by a front of these; by all of them where no write failed
abbrev pub AppendsFront : Option (List ℕ) → Option (List ℕ) → List ℕ → Type 0
AppendsFront old new bytes = (front rest : List ℕ) × (bytes ≡ front ++ rest) × Appends old new front
