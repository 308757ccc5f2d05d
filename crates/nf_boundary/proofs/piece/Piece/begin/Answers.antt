use Rattle.nf_boundary.proofs.Common.{◌∷◌, ◌≡◌, rules, refl, row_of, ucd}
use Rattle.nf_boundary.proofs.BecomesLemmas.{leaves_any}
use Rattle.nf_boundary.proofs.FillsLemmas.{becomes_own, becomes_row, take_after}
use Rattle.nf_boundary.proofs.piece.Piece.begin.Goals as goal

pub returns-then-is_yes-clause-becomes : goal.returns-then-is_yes-clause-becomes
returns-then-is_yes-clause-becomes c = λ _.
    let own = c.what_passes_in_nfkd_is_its_own_row.ensures _ ((c.is_yes.ensures _ c.requires.at.sees.known).0 c.if-is_yes.true) in
    search (rules, becomes_own)

pub loop-member-init : goal.loop-member-init
loop-member-init c = search (rules, becomes_row, c.in_ok-starter.ensures.cases.0)

pub loop-member-preserved : goal.loop-member-preserved
loop-member-preserved c =
    let is : row_of c.args.form ucd c.args.first.seen.character ≡ c.in_ok-starter.starter.now ∷ c.in_ok-starter.others.now = cc c.in_ok-starter.ensures.cases.0 in
    rw (take_after _ _ _ is _ c.member-item.result c.loop-member-test.true c.member-item.is) (c.in_ok-push.ensures.becomes refl _ _ c.loop-member.invariant)

pub returns-clause-leaves : goal.returns-clause-leaves
returns-clause-leaves c = search (rules, leaves_any)
