-- What a filter that ends gives to a room.
use Rattle.std.proofs.Common.{◌≡◌, false, ℕ, ◌+◌, ◌<◌, inl, inr, List, [], ◌++◌, length, take, Some, Result, Ok, Err, refl, sym, ap, ◌∙◌, arith, ◌↔◌, IfSome, IfErr, length-append, length-take}
use Rattle.nf_c.proofs.Common.{result_err, ucd, Form, Fault, Spent, Write, Row, Policy, Tally, SinkState, final_utf8, settled_utf8, Room, room_state, FinishesFilter, FilterFinishes, IsOfFinishing}
use Rattle.nf_filter.specs.Faults.{IsOfFinishing as IsOfFilter}
use Rattle.nf_filter.specs.Laws.Soundness.{AreSound}
use Rattle.nf_filter.proofs.FilterLemmas.{write_or_kept}
use Rattle.nf_filter.proofs.SoundnessLemmas.{not_in_end}
use Rattle.nf_c.proofs.FeedsLemmas.{puts_is, too_little}

-- a filter that is not spent ends by these faults, where no character is unsound
of_finishing : (result : Result Tally Fault) → IfErr result IsOfFilter → ¬ (result ≡ Err Spent) → ((at : ℕ) → ¬ (result ≡ Err (Row at))) → IfSome (result_err result) IsOfFinishing
of_finishing (Err Spent) among unspent sound = absurd (unspent refl)
of_finishing (Err (Row at)) among unspent sound = absurd (sound at refl)
of_finishing result among unspent sound = among

from_err : (result : Result Tally Fault) → result_err result ≡ Some Write → result ≡ Err Write
from_err (Ok tally) e = cc
from_err (Err fault) e = cc

module _ {policy : Policy} {f : Form} {base : ℕ} {bytes output : List ℕ} {old : SinkState} (room : Room) (n : ℕ) {lender : ℕ} {result : Result Tally Fault} (was_empty : old ≡ record { taken = Some []; is_failed = false; lender = lender })
    (is : output ≡ room.bytes.now) (taken : (room_state room).taken ≡ Some (take n room.bytes.now)) (finishes : FilterFinishes policy f ucd base bytes old (room_state room) result) where
  settles : ¬ (result ≡ Err Write) → final_utf8 policy f ucd bytes ≡ settled_utf8 policy f ucd bytes ++ take n output
  settles not = rw is (puts_is was_empty taken (finishes.written not))

  full : (result ≡ Err Write) ↔ (length (settled_utf8 policy f ucd bytes) + length output < length (final_utf8 policy f ucd bytes))
  full = (
    λ e. too_little room was_empty is (finishes.broken_off e),
    λ more. elim (write_or_kept result) [
      | inl e ↦ e
      | inr not ↦ absurd (omega (arith, more, ap length (settles not), length-append (settled_utf8 policy f ucd bytes) (take n output), length-take n output))
    ],
  )

  pub FinishesFilter-from : IfErr result IsOfFilter → ¬ (result ≡ Err Spent) → AreSound ucd → FinishesFilter policy f base bytes output (record { written = n; fault = result_err result })
  FinishesFilter-from among unspent sound = record {
    among = of_finishing result among unspent row;
    full = (λ e. full.0 (from_err result e), λ more. ap result_err (full.1 more));
    is = λ not. ap result_err (finishes.answer (λ e. not (ap result_err e)));
    settles = λ not. settles (λ e. not (ap result_err e));
  }
    where
      row : (at : ℕ) → ¬ (result ≡ Err (Row at))
      row at e = not_in_end ucd sound base at policy bytes (sym (finishes.answer (λ w. let same : Err Write ≡ Err (Row at) = sym w ∙ e in cc)) ∙ e)
