-- Changes to character data: a question is answered by the first change that names its argument.
use Rattle.std.specs.Prelude.{◌==◌, ◌&&◌, Bool, ℕ, List, [], ◌∷◌, Option, Some, None, if◌then◌else◌}
use Rattle.std.specs.Borrow.{Bor}
use Rattle.nf_row.specs.declared.patched.Change.{Change}
use Rattle.nf_row.specs.declared.patched.Change.TheVariants.{Class, Canonical, Compat, Pair, Assigned}

abbrev pub or_next : {A : Type 0} → Option A → Option A → Option A
or_next (Some answer) next = Some answer
or_next None next = next

abbrev pub first_change : {A : Type 0} → (Change → Option A) → List Change → Option A
first_change asked [] = None
first_change asked (change ∷ rest) = or_next (asked change) (first_change asked rest)

-- what a change says of a code point, if it names it
abbrev pub class_in : ℕ → Change → Option ℕ
class_in c (Class named class) = if named == c then Some class else None
class_in c _ = None

abbrev pub canonical_in : ℕ → Change → Option (Bor (List ℕ))
canonical_in c (Canonical named row) = if named == c then Some row else None
canonical_in c _ = None

abbrev pub compat_in : ℕ → Change → Option (Bor (List ℕ))
compat_in c (Compat named row) = if named == c then Some row else None
compat_in c _ = None

abbrev pub pair_in : ℕ → ℕ → Change → Option (Option ℕ)
pair_in a b (Pair first second composite) = if first == a && second == b then Some composite else None
pair_in a b _ = None

abbrev pub assigned_in : ℕ → Change → Option Bool
assigned_in c (Assigned named assigned) = if named == c then Some assigned else None
assigned_in c _ = None
