-- How many bytes were taken.
use Rattle.std.specs.Prelude.{◌≡◌, ℕ, ◌-◌, ◌^◌, min, List, [], length, Option, IsSome, IfSome}

-- where it is known what was taken, this is how many bytes; the count stops at `u64::MAX`
abbrev pub IsCountOf : ℕ → Option (List ℕ) → Type 0
IsCountOf count taken = IfSome taken (λ bytes. count ≡ min (length bytes) (2 ^ 64 - 1))

-- where it is known what was taken, it is nothing
abbrev pub IsEmpty : Option (List ℕ) → Type 0
IsEmpty taken = IfSome taken (λ bytes. bytes ≡ [])

-- each writer of a kind tells what it has taken
abbrev pub AlwaysTells : {W : Type 0} → (W → Option (List ℕ)) → Type 0
AlwaysTells {W} contents = (w : W) → IsSome (contents w)
