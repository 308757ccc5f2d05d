use Rattle.nf_boundary.proofs.Common.{◌≡◌, ◌||◌, false, sym, ◌∙◌, arith, nat_tests, IsTrue, passes_check, canonical_combining_class, is_among, halfwidth_marks, vowel_signs}
use Rattle.nf_boundary.proofs.SeenLemmas.{boundary_row, passes_yes}
use Rattle.nf_boundary.proofs.RowLemmas.{row_boundary}
use Rattle.nf_boundary.proofs.rows.changed.Goals as goal

pub returns-clause-row : goal.returns-clause-row
returns-clause-row c =
    let x = c.args.seen.character in
    let is = c.in_ok-first.ensures.cases.0 in
    let tells = c.the_quick_check_tells.ensures in
    let passes : IsTrue (passes_check c.args.form c.in_ok-first.first.now) = grind (arith, c.passes.ensures _ c.look_up.ensures, c.if-not-passes.false) in
    let boundary_before = row_boundary _ _ _ _ (sym (c.members-members.ensures _ _ is) ∙ is) (tells.own_boundary _ _ passes) (tells.never_second _ _ (passes_yes _ _ passes)) in
    let class : canonical_combining_class x ≡ 0 = grind (arith, nat_tests, c.class.ensures x c.requires.known, c.if-class-ne0.false) in
    let plain : (is_among halfwidth_marks x || is_among vowel_signs x) ≡ false = sym (c.begins_with_mark.ensures x c.requires.known) ∙ c.if-begins_with_mark.false in
    record {
      at = boundary_row c.args.form c.args.seen c.requires c.every_character_is_sound.ensures.character class plain c.exceptions_are_few.ensures.starter boundary_before;
      members = c.members-members.ensures;
    }
