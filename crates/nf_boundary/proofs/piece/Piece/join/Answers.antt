use Rattle.nf_boundary.proofs.Common.{◌≡◌, ◌≢◌, ◌∙◌, eq-eqb, arith, nat_tests, No, kit_form, quick_check, canonical_combining_class}
use Rattle.nf_boundary.proofs.LetterLemmas.{class_of}
use Rattle.nf_boundary.proofs.BecomesLemmas.{leaves_starter}
use Rattle.nf_boundary.proofs.FillsLemmas.{leaves_mark}
use Rattle.nf_boundary.proofs.piece.Piece.join.Goals as goal

pub returns-then-not-is_no-clause-leaves : goal.returns-then-not-is_no-clause-leaves
returns-then-not-is_no-clause-leaves c = λ _ cs here.
    let x = c.args.seen.character in
    let may : quick_check (kit_form c.args.form) x ≢ No = grind (arith, (c.is_no.ensures x c.requires.known).1, c.if-not-is_no.true) in
    let some : canonical_combining_class x ≢ 0 = grind (arith, nat_tests, c.class-class.ensures x c.requires.known, c.if-class-ne0.true) in
    leaves_mark c.args.form x (c.the_quick_check_tells.ensures.mark _) some may cs _ _ c.in_ok-self.ensures.room here

pub returns-then-is_yes-clause-leaves : goal.returns-then-is_yes-clause-leaves
returns-then-is_yes-clause-leaves c = λ some cs here.
    let x = c.args.seen.character in
    let own = c.what_passes_in_nfkd_is_its_own_row.ensures x ((c.is_yes.ensures x c.requires.known).0 c.if-is_yes.true) in
    let none : canonical_combining_class x ≡ 0 = grind (arith, nat_tests, c.class-class.ensures x c.requires.known, c.if-class-eq0.true) in
    rw (c.join_starter.ensures.room some) (leaves_starter x own (eq-eqb _ 0 (class_of x ∙ none)) cs _ here)
