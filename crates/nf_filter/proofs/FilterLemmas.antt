-- What a filter answers.
use Rattle.nf_filter.proofs.Common.{cases_Bool, ◌≡◌, ℕ, ◌+◌, ◌<◌, ◌^◌, List, [], length, None, Err, ◌⊎◌, inl, inr, ⊎_elim, refl, sym, ap, ◌∙◌, arith, IsTrue, Result, option_map, length-append, ◌↔◌, Properties, Form, text_of, Fault, Write, State, Policy, SinkState, Puts, BreaksOff, as_is, is_usable, fault_in, unusable_decision, decided_in, base_of, offset_of, StandsAfter, HasReadTo}

-- the fault that a call told
pub err_is : {T : Type 0} {fault k : Fault} → (let r : Result T Fault = Err fault in r ≡ Err k) → fault ≡ k
err_is e = cc

-- the sink failed, or something else
pub write_or_kept : {T : Type 0} (r : Result T Fault) → (r ≡ Err Write) ⊎ (¬ (r ≡ Err Write))
write_or_kept (Err Write) = inl refl
write_or_kept _ = inr (λ e. cc)

-- so the sink failed with more to be written where that is answered, and nowhere else
pub failed_if : {T : Type 0} {old new : SinkState} {before after : List ℕ} (r : Result T Fault) → (r ≡ Err Write → BreaksOff old new before after) → (¬ (r ≡ Err Write) → Puts old new before after)
    → (r ≡ Err Write) ↔ (IsTrue new.is_failed × (length before < length after))
failed_if {before = before} r breaks puts = (
  λ e. let stops = breaks e in (stops.failed, omega (arith, ap length stops.after, length-append {A = ℕ})),
  λ both. ⊎_elim (λ e. e) (λ not. let given = puts not in absurd (omega (arith, ap length given.after, length-append before given.out, ap length (given.idle (sym given.stands ∙ both.0))))) (write_or_kept r),
)

-- what a text decides that is refused where a filter refuses it
pub decided_in-fault : (p : Properties) (base : ℕ) (bytes : List ℕ) → decided_in (unusable_decision p base) base bytes ≡ option_map Err (fault_in as_is p base bytes)
unfolding fault_in
decided_in-fault p base bytes = ⊎_elim (λ e. rw e) (λ e. rw e) (cases_Bool (is_usable p (text_of bytes)))

-- what a filter that stands after bytes says of them
module _ {policy : Policy} {f : Form} {p : Properties} {state : State} {bytes : List ℕ} (stands : StandsAfter policy f p state bytes) where
  pub StandsAfter-offset : offset_of state ≡ base_of state + length bytes
  StandsAfter-offset = omega (arith, stands.reading.read.offset, stands.reading.read.left.len, length-append state.reading.decoder [])

  pub StandsAfter-fits : base_of state + length bytes < 2 ^ 64
  StandsAfter-fits = omega (arith, StandsAfter-offset)

  -- under its own policy
  pub read_before : HasReadTo state.policy f p state.counted state.base state.reading bytes []
  read_before = rw stands.policy_is stands.reading

  pub no_fault_before : fault_in state.policy p state.base bytes ≡ None
  no_fault_before = rw stands.policy_is stands.no_fault
