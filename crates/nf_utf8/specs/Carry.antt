-- The bytes that a carry holds, and the carry that holds them.
use Rattle.std.specs.Prelude.{◌≡◌, ℕ, List, [], ◌∷◌, refl}
use Rattle.nf_utf8.specs.declared.carry.Carry.{Carry}
use Rattle.nf_utf8.specs.declared.carry.Carry.TheVariants.{Empty, One, Two, Three}

abbrev pub bytes_of : Carry → List ℕ
bytes_of Empty = []
bytes_of (One a) = a ∷ []
bytes_of (Two a b) = a ∷ b ∷ []
bytes_of (Three a b c) = a ∷ b ∷ c ∷ []

abbrev pub carry_of : List ℕ → Carry
carry_of [] = Empty
carry_of (a ∷ []) = One a
carry_of (a ∷ b ∷ []) = Two a b
carry_of (a ∷ b ∷ c ∷ rest) = Three a b c

pub carry_of-bytes_of : (carry : Carry) → carry_of (bytes_of carry) ≡ carry
carry_of-bytes_of Empty = refl
carry_of-bytes_of (One a) = refl
carry_of-bytes_of (Two a b) = refl
carry_of-bytes_of (Three a b c) = refl
