use Rattle.nf_boundary.proofs.Common.{rules, ◌≡◌, arith, Yes, kit_form, quick_check}
use Rattle.nf_boundary.proofs.RowLemmas.{form_apart, form_own}
use Rattle.nf_boundary.proofs.LetterLemmas.{closes_letter}
use Rattle.nf_boundary.proofs.apart.take_apart.Goals as goal

pub returns-clause-closes : goal.returns-clause-closes
returns-clause-closes c = search (rules, closes_letter, form_apart)

pub returns-then-is_yes-clause-closes : goal.returns-then-is_yes-clause-closes
returns-then-is_yes-clause-closes c =
    let yes : quick_check (kit_form c.args.form) c.args.first.character ≡ Yes = grind (arith, c.is_yes.ensures _ c.requires.first.sees.known) in
    search (rules, closes_letter, form_own _ _ c.requires.first (c.what_passes_has_a_boundary_before.ensures.alone _ _ yes))
