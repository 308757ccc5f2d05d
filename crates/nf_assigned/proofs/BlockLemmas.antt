-- Bytes after bytes that are told.
use Rattle.std.proofs.Common.{ℕ, ◌+◌, ◌-◌, ◌≡◌, ◌<◌, ◌≤◌, ◌⊎◌, inl, inr, List, slice_index, arith, ⊎_elim}
use Rattle.std.specs.Int.{bit_at}
use Rattle.std.proofs.str.Laws.{order}
use Rattle.nf_lanes.specs.Looks.{is_in, NoneFound}
use Rattle.nf_lanes.specs.Scripts.{IsToldInScript}
use Rattle.nf_lanes.specs.declared.sets.Pairs.{Pairs}
use Rattle.nf_assigned.specs.declared.scripts.TheConstants.{SCRIPTS}
use Rattle.nf_assigned.specs.Bytes.{IsFamily, AreFound, AreTold, IsTold}

pub told_after : (bytes : List ℕ) (at : ℕ) → AreTold bytes at → (n : ℕ) → ((k : ℕ) → k < n → 0xCD ≤ slice_index bytes (at + k) → IsTold bytes (at + k)) → AreTold bytes (at + n)
told_after bytes at told n more k inside high =
    ⊎_elim
    (λ before. told k before high)
    (λ after. let is : at + (k - at) ≡ k = omega (arith, after) in (rw is at (more (k - at))) (omega (arith, after, inside)) high)
    (order k at)

-- a family of pairs tells of a character, where it has none of it
by_family : (family : Pairs) (bytes : List ℕ) (k : ℕ) → IsFamily family → NoneFound (is_in family) bytes k → IsTold bytes k
by_family family bytes k (inl is) none = inr (inl (rw is at none))
by_family family bytes k (inr is) none = inr (inr (inl (rw is at none)))

-- by what is asked of a window
pub by_window : (family : Pairs) (bytes : List ℕ) (at found : ℕ) → IsFamily family → ((k : ℕ) → k < 64 → bit_at found k ≡ 1 → (k < 63) × (0xC0 ≤ slice_index bytes (at + k)))
    → ((k : ℕ) → k < 63 → bit_at found k ≡ 0 → 0xC0 ≤ slice_index bytes (at + k) → NoneFound (is_in family) bytes (at + k) ⊎ IsToldInScript SCRIPTS bytes (at + k)) → AreFound bytes at found
by_window family bytes at found is leads told = record {
  leads = leads;
  told = λ k few unset least. ⊎_elim (by_family family bytes (at + k) is) (λ none. inr (inr (inr (inl none)))) (told k few unset (omega (arith, least)));
}
