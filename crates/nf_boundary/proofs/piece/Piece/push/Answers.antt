use Rattle.nf_boundary.proofs.Common.{rules, refl, IsTrue, passes_check}
use Rattle.nf_boundary.proofs.SeenLemmas.{passes_yes}
use Rattle.nf_boundary.proofs.BecomesLemmas.{becomes_cut}
use Rattle.nf_boundary.proofs.piece.Piece.push.Goals as goal

pub returns-clause-becomes : goal.returns-clause-becomes
returns-clause-becomes c = λ _ w before here.
    let passes : IsTrue (passes_check c.args.form c.args.member) = search rules in
    let tells = c.the_quick_check_tells.ensures in
    rw c.clear.ensures
    (becomes_cut c.args.form w before _ c.args.member (c.in_ok-close.ensures.closes refl w before here) (tells.own_boundary _ _ passes).starts (tells.never_second _ _ (passes_yes _ _ passes)))
