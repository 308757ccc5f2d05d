use Rattle.nf_boundary.proofs.Common.{◌∙◌}
use Rattle.nf_boundary.proofs.BecomesLemmas.{becomes_closed, becomes_closed_one}
use Rattle.nf_boundary.proofs.piece.Piece.close.Goals as goal

pub returns-then-is_empty-clause-closes : goal.returns-then-is_empty-clause-closes
returns-then-is_empty-clause-closes c = λ some w before here.
    becomes_closed_one c.args.form w _ _ before _ here c.if-is_empty.ensures _ (c.append_one.ensures.some some)

pub returns-clause-closes : goal.returns-clause-closes
returns-clause-closes c = λ _ w before here.
    becomes_closed c.args.form w _ _ before _ here _ (λ m held marks.
    rw (← c.composes.ensures, ← c.close_off.ensures.closed m (c.as_slice.ensures.value ∙ held) marks, ← c.as_slice-2.ensures.value) c.put_utf8.ensures.text)
