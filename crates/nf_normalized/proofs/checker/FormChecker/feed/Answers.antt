use Rattle.nf_normalized.proofs.Common.{append_assoc, [], ◌∷◌, ◌⊎◌, ◌≡◌, ◌<◌, ◌+◌, ◌++◌, ◌^◌, Bool, false, ℕ, List, IsTrue, inr, length, sym, ◌∙◌, arith, is_some, Ok, Err, length-append, false_from_ne_true, ∥∥₁_elim, ∥∥₁_map, le_prop, result_err, ucd, Form, fault_in, state_of, base_of, is_spent, offset_of, spent, too_long, ill_formed, unassigned, TooLong, under, filter_state, left, Holds, StandsAfter-offset}
use Rattle.std.proofs.Math.Logic.{∥∥₁_prop}
use Rattle.std.proofs.Common.{Option, Some, None, Result, IfSome, refl}
use Rattle.nf_normalized.proofs.Common.{Place, Fault}
use Rattle.nf_normalized.proofs.CheckerLemmas.{written, held_few}
use Rattle.nf_normalized.proofs.CallLemmas.{stable, room, Call, piece_kinds, other_decides, split_now, alike_decides}
use Rattle.nf_normalized.proofs.checker.FormChecker.feed.Goals as goal
use Rattle.nf_normalized.proofs.checker.FormChecker.feed.Goals.{After-feed-fed}

module _ (c : After-feed-fed) {assigned : Bool} {f : Form} {bytes : List ℕ} (holds : Holds assigned f (filter_state c.args.self.now) c.args.self.now.held.items bytes) where
  -- what was seen of the call, where the filter stood after these bytes
  seen : (c.feed-fed.result ≡ Err TooLong → ⊥) → Call assigned f (base_of (filter_state c.args.self.now)) c.as_slice-held.result.now bytes (bytes ++ c.args.piece.now)
      (written assigned f (bytes ++ c.args.piece.now)) c.new-sink.result c.feed-fed.new.sink c.feed-fed.result c.chars-chars.result c.offset-offset.result
      (result_err c.feed-fed.result ≡ fault_in (under assigned) ucd (base_of (filter_state c.args.self.now)) (bytes ++ c.args.piece.now))
  seen short =
      let feeds = c.feed-fed.ensures.feeds _ f bytes holds.filter short in
      record {
        known = grind (arith, c.split.ensures, c.read_back.ensures, c.pieces.ensures, c.each_form_changes_a_text_once.ensures);
        split = grind (arith, holds.split);
        expects = grind (arith, holds.split, append_assoc);
        wrote = grind (arith, feeds);
        chars_are = c.chars-chars.ensures _ f bytes holds.filter;
        offset_is = grind (arith, StandsAfter-offset holds.filter);
        answer = feeds.answer;
      }

  -- where the piece was taken, what is left of what was read is held
  holds_now : is_some c.feed-fed.new.sink.other ≡ false → {done : Unit {0}} → c.feed-fed.result ≡ Ok done
      → Holds assigned f (state_of c.feed-fed.new.self) (left c.feed-fed.new.sink) (bytes ++ c.args.piece.now)
  holds_now none ok = record { filter = rw ok at c.feed-fed.ensures.stands _ _ _ holds.filter; split = split_now (seen (λ e. cc)) none }

-- a place that was found stays
stays : {X : Type 0} (place : Option Place) → X → IfSome place (λ found. (let told : Result (Option Place) Fault = Ok place in told ≡ Ok (Some found)) × X)
stays None same = tt
stays (Some found) same = (refl, same)

pub returns-then-is_some-clause-found : goal.returns-then-is_some-clause-found
returns-then-is_some-clause-found c = stays c.args.self.now.place (λ i. record c.args.self.now { holds = λ none unspent. ∥∥₁_prop (c.self-1.given.0 none unspent) (c.args.self.now.holds none unspent) i })

-- a call that is refused leaves the sink as it was
pub place_after-requires : goal.place_after-requires
place_after-requires c =
    let at = (goal.at.place_after-requires c).After-feed-fed in
    let refused : (IsTrue (is_spent (filter_state c.args.self.now)) ⊎ (c.feed-fed.result ≡ Err TooLong)) → ⊥ = λ is. grind (arith, c.feed-fed.ensures.kept is) in
    let fits : offset_of (filter_state c.args.self.now) + length c.args.piece.now < 2 ^ 64 = grind (arith, refused, c.feed-fed.ensures.too_long, false_from_ne_true) in
    ∥∥₁_elim (c.args.self.now.holds (grind arith) (grind (arith, refused))) (hlevel le_prop)
    (λ h. room (seen at h.holds (λ long. refused (inr long))) (omega (arith, fits, StandsAfter-offset h.holds.filter, length-append h.bytes c.args.piece.now)))

pub returns-then-has_differed-clause-decides : goal.returns-then-has_differed-clause-decides
returns-then-has_differed-clause-decides c = λ assigned f base bytes stands other.
    let at = (goal.at.returns-then-has_differed-clause-decides c).After-feed-fed in
    rw (← stands.base_is) (other_decides (seen at stands.holds (λ long. grind (arith, c.feed-fed.ensures.kept (inr long)))) (cc) c.place_after.result c.place_after.ensures)

pub returns-in-Err-clause-faults : goal.returns-in-Err-clause-faults
returns-in-Err-clause-faults c =
    let at = (goal.at.returns-in-Err-clause-faults c).After-feed-fed in
    stable (spent ∷ too_long ∷ ill_formed ∷ unassigned ∷ []) c.in-Err.fault (λ out.
    ∥∥₁_elim (c.args.self.now.holds (grind arith) (grind (arith, out, c.feed-fed.ensures.spent)))
    (λ x y. absurd x) (λ h. out (piece_kinds (seen at h.holds (λ long. out (grind arith))) (cc)
    c.every_character_is_sound.ensures.character c.in-Err.fault c.in-Err.ensures.faults c.in-Err.is)))

pub returns-in-Err-clause-decides : goal.returns-in-Err-clause-decides
returns-in-Err-clause-decides c = λ assigned f base bytes stands other.
    rw (← stands.base_is) (rw c.in-Err.is at (alike_decides (seen (goal.at.returns-in-Err-clause-decides c).After-feed-fed stands.holds (λ e. other (cc))) (cc)))

pub joined-self-requires : goal.joined-self-requires
joined-self-requires c =
    let at = (goal.at.joined-self-requires c).After-feed-fed in
    let few = ∥∥₁_elim (c.args.self.now.holds (grind arith) (grind (arith, c.feed-fed.ensures.spent))) le_prop (λ h.
    held_few (seen at h.holds (λ e. cc)).known (holds_now at h.holds (cc) c.in_default.is)
    c.longest_text.ensures c.replacing.ensures c.every_character_is_sound.ensures.character c.little_is_kept.ensures) in
    grind (arith, few, length-append, c.left.ensures.left)

pub invariant_of-self-2 : goal.invariant_of-self-2
invariant_of-self-2 c = record {
  holds = λ _ _.
      ∥∥₁_map (c.args.self.now.holds (grind arith) (grind (arith, c.feed-fed.ensures.spent))) (λ h.
      let holds = holds_now (goal.at.invariant_of-self-2 c).After-feed-fed h.holds (cc) c.in_default.is in
      record { assigned = _; form = _; bytes = _; holds = rw (← c.left.ensures.left, ← c.joined-self.ensures) at holds });
}

pub returns-clause-decides : goal.returns-clause-decides
returns-clause-decides c = λ assigned f base bytes stands other.
    rw (← stands.base_is) (rw c.in_default.is at (alike_decides (seen (goal.at.returns-clause-decides c).After-feed-fed stands.holds (λ e. cc)) (cc)))

pub returns-clause-stands : goal.returns-clause-stands
returns-clause-stands c = λ assigned f base bytes stands ok. record {
  none = grind arith;
  undecided = sym (returns-clause-decides c assigned f base bytes stands (λ e. cc));
  base_is = c.feed-fed.ensures.base ∙ stands.base_is;
  holds = rw (c.joined-self.ensures, c.left.ensures.left) (holds_now (goal.at.returns-clause-stands c).After-feed-fed stands.holds (cc) c.in_default.is);
}
