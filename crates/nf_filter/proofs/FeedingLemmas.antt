-- What feeding all that a source gives comes to, by where it stopped, and driving a filter over it.
use Rattle.nf_filter.proofs.Common.{◌≡◌, ℕ, ◌+◌, ◌<◌, ◌≤◌, ◌^◌, ◌↔◌, ◌⊎◌, true, false, List, [], ◌++◌, length, Some, None, Ok, Err, ⊎_elim, refl, arith, append_assoc, append-nil, IsFalse, Result, length-append, Consumes, IsAtEnd, cases_lt, Properties, Form, Fault, Policy, TooLong, Read, Write, State, Tally, SinkState, SourceState, Puts, BreaksOff, settled_utf8, fault_in, base_of, offset_of, is_spent, StandsAfter, Feeds, Finishes, Drives}
use Rattle.nf_filter.specs.Drives.{HasFed, due_utf8}
use Rattle.nf_filter.proofs.WritesLemmas.{Puts-none, Puts-join, BreaksOff-join}
use Rattle.nf_filter.proofs.FilterLemmas.{failed_if, StandsAfter-offset, StandsAfter-fits}

abbrev pub fed_by : Fault → Result (Unit {0}) Fault
fed_by fault = Err fault

abbrev refused_by : Fault → Result Tally Fault
refused_by fault = Err fault

-- nothing yet
pub HasFed-none : {policy : Policy} {f : Form} {p : Properties} {state : State} {bytes : List ℕ} {sink : SinkState} → StandsAfter policy f p state bytes → HasFed policy f p (base_of state) state bytes [] sink sink
HasFed-none {bytes = bytes} stands = record { base_is = refl; stands = rw (append-nil bytes) stands; put = rw (append-nil bytes) (Puts-none _ _) }

module _ (policy : Policy) (f : Form) (p : Properties) (base : ℕ) (state : State) (bytes fed : List ℕ) (old mid : SinkState) (so_far : HasFed policy f p base state bytes fed old mid) where
  here : offset_of state ≡ base + length bytes + length fed
  here = omega (arith, StandsAfter-offset so_far.stands, so_far.base_is, length-append bytes fed)

  fits : base + length bytes + length fed < 2 ^ 64
  fits = omega (arith, StandsAfter-fits so_far.stands, so_far.base_is, length-append bytes fed)

  none : fault_in policy p base (bytes ++ fed) ≡ None
  none = rw so_far.base_is at so_far.stands.no_fault

  -- a piece more
  pub HasFed-more : (after : State) (piece : List ℕ) (new : SinkState) → base_of after ≡ base → StandsAfter policy f p after ((bytes ++ fed) ++ piece) → Feeds policy f p base (bytes ++ fed) piece mid new (Ok tt)
      → HasFed policy f p base after bytes (fed ++ piece) old new
  HasFed-more after piece new base_is stands feeds = record { base_is = base_is; stands = rw (← append_assoc bytes fed piece) stands; put = rw (← append_assoc bytes fed piece) (Puts-join so_far.put (feeds.written (λ e. cc))) }

  module _ (most : ℕ) (source left : SourceState) where
    -- the source ended, and the filter was finished
    pub Drives-finished : (new : SinkState) (r : Result Tally Fault) → left.is_at_end ≡ true → Consumes source.coming left.coming fed → IsAtEnd left.coming → ¬ (r ≡ Err TooLong) → ¬ (r ≡ Err Read)
        → Finishes policy f p base (bytes ++ fed) mid new r → Drives most policy f p base bytes source left old new r
    Drives-finished new r ended consumed read_out short unread finishes =
        let broken : r ≡ Err Write → BreaksOff old new (settled_utf8 policy f p bytes) (due_utf8 left.is_at_end policy f p (bytes ++ fed)) = λ e. rw ended (BreaksOff-join so_far.put (finishes.broken_off e)) in
        let written : ¬ (r ≡ Err Write) → Puts old new (settled_utf8 policy f p bytes) (due_utf8 left.is_at_end policy f p (bytes ++ fed)) = λ not. rw ended (Puts-join so_far.put (finishes.written not)) in
        record {
          fed = fed;
          last = [];
          given = rw (append-nil fed) consumed;
          few = omega arith;
          read_out = λ _. read_out;
          too_long = (λ e. absurd (short e), λ over. absurd (omega (arith, fits)));
          all_fed = λ _. refl;
          write = failed_if r broken written;
          broken_off = broken;
          written = written;
          no_fault = λ _. none;
          finished = λ _ kept. finishes.answer kept;
          stopped = λ going. cc;
        }

    -- or it was stopped by a fault
    module _ (going : left.is_at_end ≡ false) where
      stopped_by : (new : SinkState) (fault : Fault) (given last : List ℕ) → Consumes source.coming left.coming (given ++ last) → length last ≤ most
          → (refused_by fault ≡ Err TooLong) ↔ (2 ^ 64 ≤ base + length bytes + length given + length last) → (¬ (refused_by fault ≡ Err TooLong) → last ≡ [])
          → (refused_by fault ≡ Err Write → BreaksOff old new (settled_utf8 policy f p bytes) (settled_utf8 policy f p (bytes ++ given)))
          → (¬ (refused_by fault ≡ Err Write) → Puts old new (settled_utf8 policy f p bytes) (settled_utf8 policy f p (bytes ++ given)))
          → ((refused_by fault ≡ Err Read) ⊎ (refused_by fault ≡ Err TooLong) → fault_in policy p base (bytes ++ given) ≡ None)
          → (¬ (refused_by fault ≡ Err Write) → ¬ (refused_by fault ≡ Err Read) → ¬ (refused_by fault ≡ Err TooLong) → Some fault ≡ fault_in policy p base (bytes ++ given))
          → Drives most policy f p base bytes source left old new (Err fault)
      stopped_by new fault given last consumed few too_long all_fed broken written no_fault answer = record {
        fed = given;
        last = last;
        given = consumed;
        few = few;
        read_out = λ end. cc;
        too_long = too_long;
        all_fed = all_fed;
        write = failed_if {old = old} {new = new} (refused_by fault) (λ e. rw going (broken e)) (λ not. rw going (written not));
        broken_off = λ e. rw going (broken e);
        written = λ not. rw going (written not);
        no_fault = ⊎_elim (λ end. cc) no_fault;
        finished = λ end. cc;
        stopped = λ _ kept unread short. (refl, answer kept unread short);
      }

      -- the source failed
      pub Drives-failed : Consumes source.coming left.coming fed → Drives most policy f p base bytes source left old mid (Err Read)
      Drives-failed consumed = stopped_by mid Read fed [] (rw (append-nil fed) consumed) (omega arith) (λ e. cc, λ over. absurd (omega (arith, fits))) (λ _. refl) (λ e. cc) (λ _. so_far.put) (λ _. none)
          (λ _ unread _. absurd (unread refl))

      -- a piece was refused: for its length, or for what is in it, or by the sink
      pub Drives-refused : (piece : List ℕ) (new : SinkState) (fault : Fault) → Consumes source.coming left.coming (fed ++ piece) → length piece ≤ most → ¬ (fed_by fault ≡ Err Read)
          → (fed_by fault ≡ Err TooLong) ↔ (IsFalse (is_spent state) × (18446744073709551615 < offset_of state + length piece)) → (fed_by fault ≡ Err TooLong → new ≡ mid)
          → (¬ (fed_by fault ≡ Err TooLong) → Feeds policy f p base (bytes ++ fed) piece mid new (Err fault)) → Drives most policy f p base bytes source left old new (Err fault)
      Drives-refused piece new fault consumed few not_read too_long kept feeds = ⊎_elim
          (λ less.
          let short : ¬ (fed_by fault ≡ Err TooLong) = λ e. let over = (too_long.0 e).1 in absurd (omega (arith, here)) in
          stopped_by new fault (fed ++ piece) [] (rw (append-nil (fed ++ piece)) consumed) (omega arith) (λ e. absurd (short (cc)), λ over. absurd (omega (arith, length-append fed piece))) (λ _. refl)
          (λ e. BreaksOff-join so_far.put (rw (← append_assoc bytes fed piece) ((feeds short).broken_off (cc)))) (λ not. Puts-join so_far.put (rw (← append_assoc bytes fed piece) ((feeds short).written (λ e. not (cc)))))
          (⊎_elim (λ e. absurd (not_read (cc))) (λ e. absurd (short (cc)))) (λ not _ _. rw (← append_assoc bytes fed piece) ((feeds short).answer (λ e. not (cc)))))
          (λ over.
          let is = too_long.1 (so_far.stands.unspent, omega (arith, here)) in
          stopped_by new fault fed piece consumed few (λ _. over, λ _. cc) (λ short. absurd (short (cc))) (λ e. let both : fed_by TooLong ≡ Err Write = cc in cc) (λ _. rw (kept is) so_far.put) (λ _. none)
          (λ _ _ short. absurd (short (cc))))
          (cases_lt (base + length bytes + length fed + length piece) (2 ^ 64))
