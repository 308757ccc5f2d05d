-- Canonical composition (The Unicode Standard, section 3.11, D114 to D117).
use Rattle.std.specs.Prelude.{ℕ, nat_le, nat_lt, Bool, ◌&&◌, List, [], ◌∷◌, ◌++◌, Option, Some, None, if◌then◌else◌, fold}
use Rattle.std.specs.List.{list_any}
use Rattle.nf_forms.specs.Properties.{Properties, is_starter}
use Rattle.nf_forms.specs.Runs.{has_starter}
use Rattle.nf_forms.specs.Front.{front, back}

-- the entry of the table, where that is a starter
abbrev pub starter_only : Properties → Option ℕ → Option ℕ
starter_only p None = None
starter_only p (Some c) = if is_starter p c then Some c else None

-- D114: the primary composite of a and b
abbrev pub composite : Properties → ℕ → ℕ → Option ℕ
composite p a b = starter_only p (p.pair a b)

-- D115: one of the marks after the starter keeps c from it
abbrev pub is_blocked : Properties → List ℕ → ℕ → Bool
is_blocked p marks c = list_any (λ m. nat_le (p.class c) (p.class m)) marks

-- the same of its class, where `highest` is the greatest class of those marks, or 0 where there are none
abbrev pub blocks : ℕ → ℕ → Bool
blocks highest class = nat_lt 0 highest && nat_le class highest

-- what c becomes with the starter, if they compose
abbrev pub joined : Properties → ℕ → List ℕ → ℕ → Option ℕ
joined p starter marks c = if is_blocked p marks c then None else composite p starter c

-- the composite in the starter's place, or c after the rest
abbrev pub replaced : Option ℕ → ℕ → List ℕ → ℕ → List ℕ
replaced (Some d) starter marks c = d ∷ marks
replaced None starter marks c = starter ∷ marks ++ c ∷ []

-- a starter with its marks, and then c
abbrev pub join : Properties → List ℕ → ℕ → List ℕ
join p [] c = c ∷ []
join p (starter ∷ marks) c = replaced (joined p starter marks c) starter marks c

-- D117, one character more; before the first starter nothing composes
abbrev pub compose_step : Properties → List ℕ → ℕ → List ℕ
compose_step p z c = if has_starter p z then front p z ++ join p (back p z) c else z ++ c ∷ []

abbrev pub compose : Properties → List ℕ → List ℕ
compose p w = fold (compose_step p) [] w
