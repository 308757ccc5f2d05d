use Rattle.nf_normalizer.proofs.Common.{sym}
use Rattle.nf_forms.specs.Laws.StreamSafe.{row-own}
use Rattle.nf_normalizer.proofs.CharacterLemmas.{TakesChar-row}
use Rattle.nf_normalizer.proofs.normalizer.Normalizer.take_own.Goals as goal

pub returns-clause-takes : goal.returns-clause-takes
returns-clause-takes g c = λ f x start before holds.
    let parts = c.in-Ok.ensures.parts f x start before holds in
    TakesChar-row _ f c.args.c parts (sym (row-own _ c.make_room.new.self.form c.args.c c.requires.own.row)) (c.push_of_class.ensures.pushes f _ start parts.0.pending parts.1)
