-- What reading a source answers at its end.
use Rattle.nf_filter.proofs.Common.{◌+◌, ◌<◌, ◌^◌, [], length, arith, append-nil, IsFalse, Consumes, IsAtEnd, TooLong, Read, Survey, answer_at_end, ending_of, ◌≡◌, ℕ, List, Some, None, Ok, Err, refl, Option, Result, OnOk, IsTrue, true_from_ne_false, Place, Fault, SourceState, place_or_fault, Surveys}

-- what no bytes decide is answered at the end alone
pub all_read : {T : Type 0} {most base : ℕ} {decision : List ℕ → Option (Result T Fault)} {value : List ℕ → T} {source left : SourceState} (result : Result T Fault)
    → Surveys most base decision value source left result → ((answer : T) → result ≡ Ok answer → (bytes : List ℕ) → ¬ (decision bytes ≡ Some (Ok answer))) → OnOk result (IsTrue left.is_at_end)
all_read (Ok answer) surveys early = true_from_ne_false _ (λ before_end. early answer refl _ (surveys.decided before_end (λ e. cc) (λ e. cc)))
all_read (Err fault) surveys early = tt

pub place_told : (place : Option Place) (fault : Option Fault) → ¬ (place_or_fault place fault ≡ Some (Ok None))
place_told None None e = cc
place_told _ _ e = cc

-- nothing more was taken: the source failed, or is at its end
pub no_more : {T : Type 0} {most : ℕ} {survey : Survey T} {source left : SourceState} {result : Result T Fault} (fed : List ℕ) → Consumes source.coming left.coming fed → (IsTrue left.is_at_end → IsAtEnd left.coming)
    → survey.decision fed ≡ None → survey.base + length fed < 2 ^ 64 → ¬ (result ≡ Err TooLong) → (IsTrue left.is_at_end → result ≡ answer_at_end survey.base (survey.value fed) (ending_of fed))
    → (IsFalse left.is_at_end → result ≡ Err Read) → Surveys most survey.base survey.decision survey.value source left result
no_more fed given read_out undecided fits short ends fails = record {
  before = fed;
  last = [];
  given = rw (append-nil fed) given;
  few = omega arith;
  read_out = read_out;
  undecided = undecided;
  too_long = (λ e. absurd (short e), λ over. absurd (omega arith));
  failed = λ _. refl;
  ended = λ end. (refl, ends end);
  decided = λ going _ unread. absurd (unread (fails going));
}
