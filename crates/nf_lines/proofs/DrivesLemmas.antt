-- What driving line by line comes to.
use Rattle.nf_lines.proofs.Common.{Bool, ◌≡◌, ℕ, ◌+◌, ◌≤◌, ◌==◌, ◌^◌, true, false, List, [], ◌++◌, length, take, Some, None, Result, Ok, Err, inl, ⊎_elim, refl, sym, ap, ◌∙◌, arith, append-nil, length-append, eq-eqb, OnOk, IsTrue, IsFalse, result_err, Consumes, IsAtEnd, Form, Fault, TooLong, Read, Write, State, Policy, Tally, SinkState, SourceState, settled_utf8-none, fault_in, base_of, StandsAfter, end_of, final_utf8, Finishes, offset_of, StandsAfter-offset, StandsAfter-fits, ucd, end_fault, StandAlone, Lines, bytes_of, TakesLines, DrivesLines}
use Rattle.std.proofs.KnownBytes.{Consumes-trans}
use Rattle.nf_filter.specs.Drives.{due_utf8}
use Rattle.nf_filter.specs.Writes.{Puts, BreaksOff}
use Rattle.nf_filter.proofs.WritesLemmas.{Puts-none}
use Rattle.nf_filter.proofs.FeedingLemmas.{fed_by}
use Rattle.nf_lines.specs.Alone.{LinesStandAlone}
use Rattle.nf_lines.proofs.AloneLemmas.{final-none}
use Rattle.nf_lines.proofs.StepLemmas.{join, begins_at, Puts-on, BreaksOff-on, long_or_not, untold, untold_err, told}

-- nothing was read
pub takes_none : {policy : Policy} {f : Form} {state : State} {sink : SinkState} → StandsAfter policy f ucd state [] → base_of state ≡ 0 → TakesLines policy f ucd state (record { whole = []; rest = [] }) sink sink (Ok tt)
takes_none {policy} {f} {sink = sink} stands base = record {
  whole = inl refl;
  no_fault = good;
  broken_off = λ e. cc;
  written = λ _. rw (final-none, settled_utf8-none) (Puts-none sink []);
  answer = λ _ _. sym good;
  too_long = λ e. cc;
  stands = λ _. (refl, base, stands);
}
  where
    good : fault_in policy ucd 0 [] ≡ None
    good = rw base at stands.no_fault

pub takes_offset : {policy : Policy} {f : Form} {state : State} {l : Lines} {first now : SinkState} → TakesLines policy f ucd state l first now (Ok tt) → offset_of state ≡ length (bytes_of l)
takes_offset {l = l} has = omega (arith, StandsAfter-offset (has.stands refl).2, (has.stands refl).1, length-append l.whole l.rest)

abbrev due : Policy → Form → Lines → Bool → List ℕ
due policy f t b = final_utf8 policy f ucd t.whole ++ due_utf8 b policy f ucd t.rest

module _ (alone : LinesStandAlone) {policy : Policy} {f : Form} {most : ℕ} {source left : SourceState} {old : SinkState} {t : Lines} where
  -- a piece was refused
  pub drives-stopped : {state : State} (last : List ℕ) {new : SinkState} (fault : Fault) → ¬ (fed_by fault ≡ Err Read) → left.is_at_end ≡ false → Consumes source.coming left.coming (bytes_of t ++ last) → length last ≤ most
      → (fed_by fault ≡ Err TooLong → 2 ^ 64 ≤ length (bytes_of t) + length last) → TakesLines policy f ucd state t old new (Err fault) → DrivesLines most policy f ucd source left old new (Err fault)
  drives-stopped last fault unread going given few long takes = record {
    taken = t;
    last = last;
    given = given;
    few = few;
    read_out = λ end. cc;
    all_taken = ⊎_elim (λ end. cc) (λ e. absurd (unread e));
    whole = takes.whole;
    lines_no_fault = takes.no_fault;
    rest = ⊎_elim (λ end. cc) (⊎_elim (λ e. absurd (unread e)) takes.too_long);
    too_long = (
      λ e. (long e, (takes.too_long e).1, λ broken. cc),
      λ over. ⊎_elim (λ is. is) (λ short. let none : Some fault ≡ None = takes.answer over.2 short ∙ over.1 in cc) (long_or_not (Err fault)),
    );
    broken_off = λ e. rw going (takes.broken_off e);
    written = λ kept. rw going (takes.written kept);
    form = tt;
    settled = (join alone takes t.rest).settled;
    finished = λ end. cc;
    stopped = λ _ kept _ short. (refl, takes.answer kept short);
  }

  module _ {state : State} {now : SinkState} (has : TakesLines policy f ucd state t old now (Ok tt)) where
    -- all that was read was taken
    all_read : (new : SinkState) (r : Result (Unit {0}) Fault) → Consumes source.coming left.coming (bytes_of t) → (IsTrue left.is_at_end → IsAtEnd left.coming) → ¬ (r ≡ Err TooLong)
        → (r ≡ Err Write → BreaksOff old new [] (due policy f t left.is_at_end)) → (¬ (r ≡ Err Write) → Puts old new [] (due policy f t left.is_at_end)) → OnOk r (due policy f t left.is_at_end ≡ final_utf8 policy f ucd (bytes_of t))
        → (IsTrue left.is_at_end → ¬ (r ≡ Err Write) → result_err r ≡ end_fault policy ucd 0 (bytes_of t)) → (IsFalse left.is_at_end → r ≡ Err Read) → DrivesLines most policy f ucd source left old new r
    all_read new r given read_out short breaks puts form finished unended = record {
      taken = t;
      last = [];
      given = rw append-nil given;
      few = omega arith;
      read_out = read_out;
      all_taken = λ _. refl;
      whole = has.whole;
      lines_no_fault = has.no_fault;
      rest = λ _. ((has.stands refl).0, sym (has.answer (λ e. cc) (λ e. cc)));
      too_long = (λ e. absurd (short e), λ over. absurd (omega (arith, over.0, StandsAfter-fits (has.stands refl).2, (has.stands refl).1, length-append t.whole t.rest)));
      broken_off = breaks;
      written = puts;
      form = form;
      settled = (join alone has t.rest).settled;
      finished = finished;
      stopped = λ going _ unread _. absurd (unread (unended going));
    }

    -- the source failed
    pub drives-failed : left.is_at_end ≡ false → Consumes source.coming left.coming (bytes_of t) → DrivesLines most policy f ucd source left old now (Err Read)
    drives-failed going given = all_read now (Err Read) given (λ end. cc) (λ e. cc) (λ e. cc) (λ _. rw going (has.written (λ e. cc))) tt (λ end. cc) (λ _. refl)

    -- it ended, and the filter was finished
    pub drives-finished : (mid : SourceState) {n : ℕ} {new : SinkState} (buffer : List ℕ) (r : Result Tally Fault) → n ≡ 0 → left.is_at_end ≡ (n == 0) → IsAtEnd left.coming → Consumes source.coming mid.coming (bytes_of t)
        → Consumes mid.coming left.coming (take n buffer) → ¬ (r ≡ Err TooLong) → ((policy : Policy) (f : Form) (bytes : List ℕ) → StandsAfter policy f ucd state bytes → Finishes policy f ucd (base_of state) bytes now new r) → DrivesLines most policy f ucd source left old new (untold r)
    drives-finished mid {n} {new} buffer r none at_end empty read given short finish =
        all_read new (untold r) (rw append-nil at (Consumes-trans source.coming mid.coming left.coming (bytes_of t) [] read (rw none at given))) (λ _. empty) (λ e. short (told r TooLong e))
        (λ e. rw ended (BreaksOff-on (final_utf8 policy f ucd t.whole) (has.written (λ e. cc)) (finishes.broken_off (told r Write e))))
        (λ kept. rw ended (Puts-on (final_utf8 policy f ucd t.whole) (has.written (λ e. cc)) (finishes.written (λ e. kept (ap untold e)))))
        (formed r finishes.answer) (λ _ kept. rw (untold_err, finishes.answer (λ e. kept (ap untold e)), joined.end)) (λ going. cc)
      where
        finishes : Finishes policy f ucd (0 + length t.whole) t.rest now new r
        finishes = rw (begins_at alone has) at (finish policy f t.rest (has.stands refl).2)

        joined : StandAlone policy f ucd 0 t.whole t.rest
        joined = join alone has t.rest

        ended : left.is_at_end ≡ true
        ended = at_end ∙ eq-eqb n 0 none

        formed : (r : Result Tally Fault) → (¬ (r ≡ Err Write) → r ≡ end_of policy ucd (0 + length t.whole) t.rest) → OnOk (untold r) (due policy f t left.is_at_end ≡ final_utf8 policy f ucd (bytes_of t))
        formed (Ok tally) answers = rw (ended, joined.final (sym (ap result_err (answers (λ e. cc)))))
        formed (Err fault) answers = tt
