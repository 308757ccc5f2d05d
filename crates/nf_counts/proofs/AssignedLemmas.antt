-- What the table tells of whether a character is assigned.
use Rattle.std.proofs.Common.{◌≡◌, ℕ, ◌+◌, ◌*◌, ◌<◌, Bool, true, false, not, cond, ◌==◌, slice_index, refl, arith, eqb-true}
use Rattle.ucd_table.specs.Trie.{block_value}
use Rattle.ucd_table.proofs.TrieCheck.{all_below, all_below-at}
use Rattle.ucd_normal.specs.CanonicalCombiningClass.{canonical_combining_class as ccc}
use Rattle.ucd_normal.specs.Decomposition.{compatibility_decomposition}
use Rattle.ucd_normal.proofs.CompositionLemmas.{is_empty}
use Rattle.nf_forms.specs.Ucd.{is_assigned}
use Rattle.nf_counts.specs.declared.rows.TheConstants.{INDEX, WORDS}
use Rattle.nf_counts.proofs.Told.{told, told-block, told-some}

-- an unassigned one alone has 8
told-assigned : (c : ℕ) → c < 1114112 → not (told c == 8) ≡ true → is_assigned c ≡ true
unfolding told
told-assigned c small other = next (is_assigned c) (is_empty (compatibility_decomposition c)) (ccc c == 0) _ (told-some c small) other
  where
    next : (assigned empty zero : Bool) (n : ℕ) → (cond empty (cond zero (cond assigned 0 8) (cond assigned 5 4)) (cond assigned n 4) == 4) ≡ false
        → not (cond empty (cond zero (cond assigned 0 8) (cond assigned 5 4)) (cond assigned n 4) == 8) ≡ true → assigned ≡ true
    next true empty zero n some other = refl
    next false true true n some other = cc
    next false true false n some other = cc
    next false false zero n some other = cc

unfoldable pub is_assigned_by : ℕ → ℕ → Bool
is_assigned_by b j = not (block_value 4 4 WORDS (slice_index INDEX b) j == 8)

-- the first block is of 0 alone
unfoldable pub is_first_block : ℕ → Bool
is_first_block b = slice_index INDEX b == 0

pub assigned-by : (b j : ℕ) → b < 1024 → j < 64 → is_assigned_by b j ≡ true → is_assigned (64 * b + j) ≡ true
unfolding is_assigned_by
assigned-by b j small little here = told-assigned _ (omega (arith, small, little)) (rw (told-block b j (omega (arith, small)) little) at here)

pub assigned-first : (b j : ℕ) → b < 1024 → j < 64 → is_first_block b ≡ true → is_assigned (64 * b + j) ≡ true
unfolding is_assigned_by is_first_block all_below block_value
assigned-first b j small little zero = assigned-by b j small little (rw (eqb-true _ 0 zero) (all_below-at (λ j. not (block_value 4 4 WORDS 0 j == 8)) 64 j refl little))
