use Rattle.nf_boundary.proofs.Common.{false, rules, ◌≡◌, ◌≢◌, ◌+◌, length, refl, append_assoc, arith, take_all, canonical_combining_class, has_starter, row_of, ucd}
use Rattle.nf_row.specs.Laws.Tables.{row_is}
use Rattle.nf_boundary.proofs.BecomesLemmas.{leaves_row}
use Rattle.nf_boundary.proofs.FillsLemmas.{take_next, marks_next}
use Rattle.nf_boundary.proofs.piece.hold_row.Goals as goal

pub loop-member-preserved : goal.loop-member-preserved
loop-member-preserved c =
    let some : canonical_combining_class c.member-item.result ≢ 0 = rw (c.class.ensures _ c.of.ensures) at (c.in_ok-left.ensures.class refl) in
    record {
      becomes = λ w starter before now here. rw (take_next _ _ _ c.loop-member-test.true c.member-item.is, ← append_assoc w) (c.in_ok-left.ensures.becomes refl c.args.form _ starter before now (c.loop-member.invariant.becomes w starter before now here));
      marks = search (rules, marks_next);
      room = omega (arith, c.in_ok-left.ensures.room);
    }

pub returns-clause-becomes : goal.returns-clause-becomes
returns-clause-becomes c = search (rules, row_is, take_all)

pub returns-clause-leaves : goal.returns-clause-leaves
returns-clause-leaves c =
    let members = c.decomposition-members.result.now in
    let is : members ≡ row_of c.args.form ucd c.args.c = search (rules, row_is) in
    let none : has_starter ucd members ≡ false = search (rules, take_all) in
    let end : c.loop-member.left + length members ≡ c.args.room = omega arith in
    search (rules, leaves_row)
