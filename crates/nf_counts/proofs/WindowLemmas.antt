-- What is looked up of a text, by the bits of a window.
use Rattle.std.proofs.Common.{◌≡◌, ◌+◌, ◌-◌, ◌<◌, ◌≤◌, ℕ, List, ⊎_elim, length, slice_index, arith}
use Rattle.std.specs.Int.{bit_at}
use Rattle.std.specs.Str.{IsCharBoundary}
use Rattle.std.proofs.Math.ListN.{get_or-eq_default}
use Rattle.std.proofs.str.Laws.{order}
use Rattle.nf_counts.specs.Window.{AreLeft, AreTold}
use Rattle.nf_counts.specs.declared.window.Window.{Window}

-- a character of more bytes than one begins where its first byte is
pub stands : (text : List ℕ) (k : ℕ) → 0xC0 ≤ slice_index text k → k < length text
stands text k lead = grind (arith, get_or-eq_default text 0)

pub begins_at : (text : List ℕ) (k : ℕ) → 0xC0 ≤ slice_index text k → IsCharBoundary text k
begins_at text k lead = (omega (arith, stands text k lead), λ _ _. lead)

-- where the first n bits of a window are not set
pub told_before : (text : List ℕ) (at : ℕ) (window : Window) → AreLeft text at window → (n : ℕ) → n ≤ 63 → ((i : ℕ) → i < n → bit_at window.found i ≡ 0) → AreTold text at (window.base + n)
told_before text at window left n few none k from to high =
    ⊎_elim
    (λ before. left.before k from before high)
    (λ after.
    let is : window.base + (k - window.base) ≡ k = omega (arith, after) in
    (rw is at (left.told (k - window.base))) (omega arith) (none _ (omega arith)) from high)
    (order k window.base)
