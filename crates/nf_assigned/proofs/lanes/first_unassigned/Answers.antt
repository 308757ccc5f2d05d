use Rattle.std.proofs.Common.{◌≡◌, inr, sym, ◌∙◌, ⊎_elim, arith, w64}
use Rattle.std.specs.Int.{trailing_zeros}
use Rattle.std.proofs.str.Laws.{order}
use Rattle.std.proofs.lemmas.Nat.Bits.{bit_at-trailing_zeros, bit_at-zero}
use Rattle.nf_assigned.proofs.BlockLemmas.{told_after}
use Rattle.nf_assigned.proofs.lanes.first_unassigned.Goals as goal

pub is_assigned_at-requires-clause-lead : goal.is_assigned_at-requires-clause-lead
is_assigned_at-requires-clause-lead c =
    let place = bit_at-trailing_zeros w64 c.loop-left.left (omega (arith, c.loop-left-test.true)) c.loop-left.invariant.fits in
    (c.loop-left.invariant.found.leads _ place.0 place.1).1

pub is_assigned_at-requires-clause-fits : goal.is_assigned_at-requires-clause-fits
is_assigned_at-requires-clause-fits c =
    let place = bit_at-trailing_zeros w64 c.loop-left.left (omega (arith, c.loop-left-test.true)) c.loop-left.invariant.fits in
    omega (arith, c.requires.room, (c.loop-left.invariant.found.leads _ place.0 place.1).0)

pub returns-then-not-is_assigned_at-clause-some : goal.returns-then-not-is_assigned_at-clause-some
returns-then-not-is_assigned_at-clause-some c =
    let place = bit_at-trailing_zeros w64 c.loop-left.left (omega (arith, c.loop-left-test.true)) c.loop-left.invariant.fits in
    let lead = c.loop-left.invariant.found.leads _ place.0 place.1 in
    let front = told_after _ _ c.requires.front.2 _ (λ k before. c.loop-left.invariant.found.told k (omega (arith, before, lead.0)) (place.2 k before)) in
    ((omega arith, omega (arith, c.requires.room, lead.0), front), omega (arith, c.requires.room, lead.0), lead.1, λ d rest is. sym (c.is_assigned_at.ensures d rest is) ∙ c.if-not-is_assigned_at.true)

pub loop-left-preserved : goal.loop-left-preserved
loop-left-preserved c =
    let place = bit_at-trailing_zeros w64 c.loop-left.left (omega (arith, c.loop-left-test.true)) c.loop-left.invariant.fits in
    let left = c.loop-left.invariant.found in
    let without = c.without_lowest-left.ensures.others _ place.1 place.2 in
    record {
      fits = omega (arith, c.loop-left.invariant.fits, c.without_lowest-left.ensures.fewer);
      found = record {
        leads = λ k small is. grind (arith, without.0, without.1 k, left.leads k small);
        told = λ k few unset least.
            ⊎_elim
            (λ before. left.told k few (grind (arith, without.1 k)) least)
            (λ from.
            ⊎_elim
            (λ after. left.told k few (grind (arith, without.1 k)) least)
            (λ upto.
            let here : k ≡ trailing_zeros w64 c.loop-left.left = omega (arith, from, upto) in
            inr (inr (inr (inr (λ d rest is. sym (c.is_assigned_at.ensures d rest (rw here at is)) ∙ c.if-not-is_assigned_at.false)))))
            (order (trailing_zeros w64 c.loop-left.left) k))
            (order k (trailing_zeros w64 c.loop-left.left));
      };
    }

pub returns-clause-none : goal.returns-clause-none
returns-clause-none c = λ _.
    (omega arith, omega (arith, c.requires.room), told_after _ _ c.requires.front.2 63 (λ k few. c.loop-left.invariant.found.told k few (rw c.loop-left-test.false (bit_at-zero k))))

pub loop-left-init : goal.loop-left-init
loop-left-init c = record { fits = omega (arith, c.ranges.found.fits); found = c.requires.found }
