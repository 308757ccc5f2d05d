use Rattle.nf_boundary.proofs.Common.{◌≡◌, ◌||◌, false, sym, ◌∙◌, arith, nat_tests, canonical_combining_class, is_among, halfwidth_marks, vowel_signs}
use Rattle.nf_boundary.proofs.SeenLemmas.{boundary_composing, boundary_apart}
use Rattle.nf_boundary.proofs.seen.Seen.is_boundary.Goals as goal

pub returns-then-not-composes : goal.returns-then-not-composes
returns-then-not-composes c = λ _.
    let x = c.args.self.character in
    let class : canonical_combining_class x ≡ 0 = grind (arith, nat_tests, c.class.ensures x c.requires.known, c.if-class-ne0.false) in
    let plain : (is_among halfwidth_marks x || is_among vowel_signs x) ≡ false = sym (c.begins_with_mark.ensures x c.requires.known) ∙ c.if-begins_with_mark.false in
    boundary_apart c.args.form c.args.self c.requires c.every_character_is_sound.ensures.character class plain c.exceptions_are_few.ensures.starter (grind (arith, c.if-not-composes.true, c.composes.ensures))

pub returns-else-not-composes : goal.returns-else-not-composes
returns-else-not-composes c = λ passes.
    let x = c.args.self.character in
    let class : canonical_combining_class x ≡ 0 = grind (arith, nat_tests, c.class.ensures x c.requires.known, c.if-class-ne0.false) in
    let plain : (is_among halfwidth_marks x || is_among vowel_signs x) ≡ false = sym (c.begins_with_mark.ensures x c.requires.known) ∙ c.if-begins_with_mark.false in
    boundary_composing c.args.form c.args.self c.requires c.every_character_is_sound.ensures.character class plain (c.the_quick_check_tells.ensures.own_boundary c.args.form) ((c.is_yes.ensures x c.requires.known).0 passes)
