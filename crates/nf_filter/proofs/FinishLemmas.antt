-- What finishing answers.
use Rattle.nf_filter.proofs.Common.{◌==◌, ◌≡◌, ℕ, ◌+◌, Bool, true, false, List, [], ◌∷◌, ◌++◌, length, None, Ok, Err, ⊎_elim, refl, sym, ap, ◌∙◌, arith, append-nil, eq-eqb, Result, if◌then◌else◌, encode_utf8_all, length-append, cases_Bool, false_from_ne_true, and_from, Properties, Form, safe_form, Ending, Cut, ending_of, replacement, Fault, Write, Counted, Policy, Reading, Tally, SinkState, Puts, BreaksOff, allowed, text_under, whole_under, settled, is_usable, usable, settled_utf8, answer_at_end, first_fault, taken_utf8, HasReadTo, HasTaken, OnOk, result_err, tally_of, answer_or, end_of, whole_or, is_taken, final_utf8, Closes, Finishes, Extends-encodes, usable-all, usable-stop, nil_from_length}
use Rattle.nf_filter.proofs.WritesLemmas.{Puts-none, Puts-at, BreaksOff-extends}
use Rattle.nf_filter.proofs.FilterLemmas.{err_is, failed_if}
use Rattle.nf_filter.proofs.PolicyLemmas.{allowed-append, allowed-grows, taken-all, taken_whole, first_fault-none, taken}
use Rattle.nf_filter.proofs.PieceLemmas.{place_in}
use Rattle.nf_filter.proofs.ReadingLemmas.{end_is as end_valued, read-text, read-end}
use Rattle.nf_filter.proofs.FedLemmas.{read-settled, whole_is as whole_replaced}
use Rattle.nf_filter.proofs.WholeLemmas.{settled-whole}
use Rattle.nf_filter.proofs.AgainLemmas.{answered}
use Rattle.nf_filter.proofs.FeedingLemmas.{fed_by}

-- where nothing is replaced, a begun character at the end gives nothing
strict_whole : (r : Bool) (bytes : List ℕ) → r ≡ false → whole_under r bytes ≡ text_under r bytes
strict_whole false bytes strict = refl
strict_whole true bytes strict = cc

-- what is written where the end is a fault
cut_short : (base : ℕ) (ending : Ending) (fault : Fault) (settled whole : List ℕ) → Err fault ≡ answer_at_end base (tt {0}) ending → whole_or ending settled whole ≡ settled
cut_short base (Cut at start) fault settled whole e = refl
cut_short base _ fault settled whole e = cc

-- by what was written
pub Finishes-of : {policy : Policy} {f : Form} {p : Properties} {base : ℕ} {bytes : List ℕ} {old new : SinkState} (r : Result Tally Fault)
    → (r ≡ Err Write → BreaksOff old new (settled_utf8 policy f p bytes) (final_utf8 policy f p bytes))
    → (¬ (r ≡ Err Write) → Puts old new (settled_utf8 policy f p bytes) (final_utf8 policy f p bytes) × (r ≡ end_of policy p base bytes)) → Finishes policy f p base bytes old new r
Finishes-of r breaks puts = record { write = failed_if r breaks (λ not. (puts not).0); broken_off = breaks; written = λ not. (puts not).0; answer = λ not. (puts not).1 }

module _ {policy : Policy} {f : Form} {p : Properties} {base : ℕ} {counted : Counted} {reading : Reading} {bytes : List ℕ} (read : HasReadTo policy f p counted base reading bytes []) where
  abbrev whole : List ℕ
  whole = whole_under policy.replace bytes

  abbrev text : List ℕ
  text = read.before

  -- nothing is replaced
  module _ (strict : policy.replace ≡ false) (sink : SinkState) where
    whole_is : whole ≡ text
    whole_is = strict_whole policy.replace bytes strict ∙ read-text read.read

    pub close-strict : (r : Result (Unit {0}) Fault) → r ≡ answer_at_end (base + read.read.n) (tt {0}) (ending_of reading.decoder) → ((fault : Fault) → r ≡ Err fault → ¬ (fault ≡ Write)) → Closes policy f p counted base bytes sink sink r
    unfolding end_of final_utf8
    close-strict (Ok u) is other =
        let told : Ok (tt {0}) ≡ answer_at_end base (tt {0}) (ending_of bytes) = is ∙ sym (read-end read.read strict) in (
          rw whole_is read.taken,
          rw (whole_is, read-settled read) (Puts-none sink _),
          rw strict (sym (end_valued base _ (ending_of bytes) (Ok tt) told)),
          rw strict (answered base (tt {0}) (tt {0}) (ending_of bytes) (sym told) _ _),
        )
    close-strict (Err fault) is other =
        let told : Err fault ≡ answer_at_end base (tt {0}) (ending_of bytes) = is ∙ sym (read-end read.read strict) in
        Finishes-of (Err fault) (λ e. absurd (other fault refl (err_is e)))
        (λ _. (Puts-at refl (rw strict (sym (cut_short base (ending_of bytes) fault _ _ told))) (Puts-none sink (settled_utf8 policy f p bytes)), rw strict (end_valued base _ (ending_of bytes) (Err fault) told)))

  -- what the end cuts is replaced
  module _ (replaces : policy.replace ≡ true) where
    -- where not all is taken, only what was settled before is
    kept : is_taken policy.assigned p whole ≡ false → taken_utf8 policy.assigned f p whole ≡ settled_utf8 policy f p bytes
    kept out =
        let sound = read.taken.machine.usable in
        let whole = whole_replaced read replaces in
        ⊎_elim
        (λ e. let is = rw e at whole in rw (is, append-nil text, taken-all p policy.assigned text sound read.allowed) (read-settled read))
        (λ e.
        let is = rw e at whole in
        let last = text ++ replacement ∷ [] in
        let refused = rw is at out in
        let left : usable p (allowed policy.assigned p last) ≡ text = ⊎_elim
        (λ same.
        let unsound : is_usable p last ≡ false = false_from_ne_true _ (λ sound. let taken = and_from _ _ (ap (is_usable p) same ∙ sound) (eq-eqb _ _ (ap length same)) in cc) in
        rw same (rw (append-nil last) at (usable-stop p text replacement [] sound unsound)))
        (λ short.
        let more = allowed-append p policy.assigned text (replacement ∷ []) read.allowed in
        let none = nil_from_length (allowed policy.assigned p (replacement ∷ [])) (omega (arith, short.0, ap length more, length-append {A = ℕ})) in
        rw (more, none, append-nil text) (usable-all p text sound))
        (allowed-grows p policy.assigned last []) in
        rw (is, left) (read-settled read))
        (cases_Bool (length reading.decoder == 0))

    final_is : (b : Bool) → is_taken policy.assigned p whole ≡ b → final_utf8 policy f p bytes ≡ (if b then encode_utf8_all (safe_form f p whole) else settled_utf8 policy f p bytes)
    unfolding final_utf8
    final_is b taken = rw (← taken, replaces) refl

    end_at : end_of policy p base bytes ≡ answer_or (first_fault policy.assigned p (place_in policy.replace base bytes) whole None) (tally_of policy.replace p bytes)
    unfolding end_of
    end_at = rw replaces refl

    pub close-replaced : (after : Counted) {old new : SinkState} (r : Result (Unit {0}) Fault)
        → (r ≡ Err Write → BreaksOff old new (settled_utf8 policy f p bytes) (taken_utf8 policy.assigned f p whole)) → (¬ (r ≡ Err Write) → Puts old new (settled_utf8 policy f p bytes) (taken_utf8 policy.assigned f p whole))
        → (¬ (r ≡ Err Write) → result_err r ≡ first_fault policy.assigned p (place_in policy.replace base bytes) whole None) → OnOk r (HasTaken f p after whole × (allowed policy.assigned p whole ≡ whole))
        → Closes policy f p after base bytes old new r
    close-replaced after (Ok u) broken puts fault has =
        let none = sym (fault (λ e. cc)) in
        let machine = has.0.machine in (
          has.0,
          rw (taken-all p policy.assigned whole machine.usable has.1) at (puts (λ e. cc)),
          rw none at end_at,
          final_is true (taken p policy.assigned _ whole None none),
        )
    close-replaced after (Err fault) broken puts first has = Finishes-of (Err fault)
        (λ e.
        let broken = broken (cc) in
        ⊎_elim
        (λ all.
        let both = taken_whole p policy.assigned whole all in
        rw (final_is true all) (BreaksOff-extends (Extends-encodes (settled-whole f p whole)) (rw (taken-all p policy.assigned whole both.0 both.1) at broken)))
        (λ out. rw (final_is false out) (rw (kept out) at broken))
        (cases_Bool (is_taken policy.assigned p whole)))
        (λ not.
        let other : ¬ (fed_by fault ≡ Err Write) = λ e. not (cc) in
        let told = first other in
        let out : is_taken policy.assigned p whole ≡ false = false_from_ne_true _ (λ all.
        let both = taken_whole p policy.assigned whole all in
        let never = told ∙ first_fault-none p policy.assigned _ whole None both.0 both.1 in cc) in
        (rw (final_is false out) (rw (kept out) at (puts other)), sym (rw (← told) at end_at)))
