-- Ranges that lie within others, as proofs by one computation ask for them.
use Rattle.std.proofs.Common.{◌≡◌, ℕ, ◌≤◌, Bool, true, false, ◌&&◌, ◌||◌, nat_le, List, [], ◌∷◌, arith}
use Rattle.std.proofs.lemmas.Bool.Decides.{nat_tests}
use Rattle.ucd_table.specs.Rows.{Range, in_ranges}

-- the range lies within one of these
abbrev pub lies_within : List Range → ℕ → ℕ → Bool
lies_within [] first last = false
lies_within (r ∷ rs) first last = (nat_le r.0 first && nat_le last r.1) || lies_within rs first last

pub in_ranges-lies_within : (rs : List Range) (first last c : ℕ) → lies_within rs first last ≡ true → first ≤ c → c ≤ last → in_ranges rs c ≡ true
unfolding in_ranges
in_ranges-lies_within [] first last c h low high = cc
in_ranges-lies_within (r ∷ rs) first last c h low high = grind (arith, nat_tests, in_ranges-lies_within rs first last c)

-- a test that is made only where the first fails, so that the computation is short
abbrev pub or_else : Bool → (Unit {0} → Bool) → Bool
or_else true more = true
or_else false more = more tt
