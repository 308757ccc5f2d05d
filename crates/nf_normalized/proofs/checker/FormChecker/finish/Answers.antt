use Rattle.nf_normalized.proofs.Common.{refl, nat_tests, [], ◌∷◌, ◌≡◌, Bool, false, ℕ, List, sym, ◌∙◌, arith, append_assoc, append-nil, ∥∥₁_elim, le_prop, ucd, Form, ending_of, answer_at_end, base_of, final_utf8, end_of, tally_of, spent, under, filter_state, Holds, StandsAfter-offset}
use Rattle.nf_filter.specs.Kinds.{cut}
use Rattle.nf_normalized.proofs.CheckerLemmas.{no_fault_parts}
use Rattle.nf_normalized.proofs.CallLemmas.{stable, room, Call, told, Due, done_end, short_end, other_end}
use Rattle.nf_normalized.proofs.checker.FormChecker.finish.Goals as goal
use Rattle.nf_normalized.proofs.checker.FormChecker.finish.Goals.{After-finish-finished, then-not-has_differed+in_default+else-is_at_end, else-not-has_differed}

module _ (c : After-finish-finished) {assigned : Bool} {f : Form} {bytes : List ℕ} (holds : Holds assigned f (filter_state c.args.self) c.args.self.held.items bytes) where
  -- what was seen of the call, where the filter stood after these bytes
  seen : Call assigned f (base_of (filter_state c.args.self)) c.as_slice-held.result.now bytes bytes (final_utf8 (under assigned) f ucd bytes) c.new-sink.result c.finish-finished.new.sink
      c.finish-finished.result c.chars-chars.result c.offset-offset.result (c.finish-finished.result ≡ answer_at_end (base_of (filter_state c.args.self)) (tally_of false ucd bytes) (ending_of bytes))
  unfolding end_of
  seen =
      let finishes = c.finish-finished.ensures.finishes _ f bytes holds.filter in
      record {
        known = grind (arith, c.split.ensures, c.read_back.ensures, c.pieces.ensures, c.each_form_changes_a_text_once.ensures);
        split = grind (arith, holds.split);
        expects = grind (arith, holds.split, append_assoc, append-nil);
        wrote = grind (arith, finishes);
        chars_are = c.chars-chars.ensures _ f bytes holds.filter;
        offset_is = grind (arith, StandsAfter-offset holds.filter);
        answer = finishes.answer;
      }

  -- and what was due
  due : Due assigned f (base_of (filter_state c.args.self)) bytes (final_utf8 (under assigned) f ucd bytes) (ending_of bytes)
  unfolding final_utf8
  due = record { good = (no_fault_parts c.every_character_is_sound.ensures.character assigned _ bytes holds.filter.no_fault).1; ends = (c.longest_text.ensures.reads bytes).end; is = refl }

pub returns-in-Err-clause-faults : goal.returns-in-Err-clause-faults
returns-in-Err-clause-faults c =
    stable (spent ∷ cut ∷ []) c.in-Err.fault (λ out.
    ∥∥₁_elim (c.args.self.holds (grind arith) (grind (arith, out, c.finish-finished.ensures.spent)))
    (λ x y. absurd x) (λ h. out (grind (arith, c.in-Err.is, told (seen (goal.at.returns-in-Err-clause-faults c).After-finish-finished h.holds) (cc)))))

pub returns-in-Err-clause-decides : goal.returns-in-Err-clause-decides
returns-in-Err-clause-decides c = λ assigned f base bytes stands.
    rw (← stands.base_is) (grind (arith, c.in-Err.is, told (seen (goal.at.returns-in-Err-clause-decides c).After-finish-finished stands.holds) (cc)))

pub returns-then-is_at_end-clause-decides : goal.returns-then-is_at_end-clause-decides
returns-then-is_at_end-clause-decides c = λ assigned f base bytes stands.
    let at = (goal.at.returns-then-is_at_end-clause-decides c).After-finish-finished in
    rw (← stands.base_is) (done_end (seen at stands.holds) (cc) (grind (arith, nat_tests)) _ _ (due at stands.holds) (sym c.in_default.is ∙ told (seen at stands.holds) (cc)))

pub place_after-requires : goal.place_after-requires
place_after-requires c =
    ∥∥₁_elim (c.args.self.holds (grind arith) (grind (arith, c.finish-finished.ensures.kept, c.finish-finished.ensures.spent))) (hlevel le_prop)
    (λ h. room (seen (goal.at.place_after-requires c).After-finish-finished h.holds) (omega (arith, StandsAfter-offset h.holds.filter, c.offset-offset.ensures, c.offset-offset.type_inv)))

pub returns-clause-decides : goal.returns-clause-decides
returns-clause-decides c = λ assigned f base bytes stands.
    let at = (goal.at.returns-clause-decides c).After-finish-finished in
    let call = seen at stands.holds in
    rw (← stands.base_is) (elim c.if-not-has_differed.branch [
      | then-not-has_differed+in_default+else-is_at_end w ↦
          short_end call (cc) (grind (arith, nat_tests)) c.place_after.result c.place_after.ensures _ _ (due at stands.holds) (sym w.in_default.is ∙ told call (cc))
      | else-not-has_differed w ↦ other_end call (cc) c.place_after.result c.place_after.ensures _ (due at stands.holds)
    ])
