use Rattle.nf_normalizer.proofs.Common.{refl, sym}
use Rattle.nf_normalizer.proofs.CharacterLemmas.{is_usable-unsound, TakesChar-row}
use Rattle.nf_normalizer.proofs.normalizer.Normalizer.take_row.Goals as goal

pub returns-in_default-clause-takes : goal.returns-in_default-clause-takes
returns-in_default-clause-takes g c = λ f x start before holds. (is_usable-unsound _ x c.args.c (sym c.in_default.ensures.sound), holds)

pub returns-clause-takes : goal.returns-clause-takes
returns-clause-takes g c = λ f x start before holds.
    let parts = c.in-Ok.ensures.parts f x start before holds in
    TakesChar-row _ f c.args.c parts refl (c.push_decomposition.ensures.pushes f _ start parts.0.pending parts.1)
