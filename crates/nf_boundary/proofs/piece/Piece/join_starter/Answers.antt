use Rattle.nf_boundary.proofs.Common.{◌≡◌, ◌∙◌, sym, refl, true, eq-eqb, ucd, is_starter}
use Rattle.nf_boundary.proofs.LetterLemmas.{class_of}
use Rattle.nf_boundary.proofs.BecomesLemmas.{becomes_composed, becomes_next}
use Rattle.nf_boundary.proofs.piece.Piece.join_starter.Goals as goal

pub returns-in-Some-clause-becomes : goal.returns-in-Some-clause-becomes
returns-in-Some-clause-becomes c = λ _ w before here.
    let starts : is_starter ucd c.args.c ≡ true = eq-eqb _ 0 (class_of c.args.c ∙ c.requires.class) in
    rw c.clear.ensures
    (becomes_composed c.args._form c.requires.composing w before _ _ _ here _ (λ m held marks. c.close_off.ensures.closed m (c.as_slice.ensures.value ∙ held) marks) c.args.c starts c.in-Some.composite
    (λ s m is. sym (c.joined_to.ensures s m (c.as_slice-2.ensures.value ∙ is)) ∙ c.in-Some.is))

pub returns-in_ok-append-in-None-clause-becomes : goal.returns-in_ok-append-in-None-clause-becomes
returns-in_ok-append-in-None-clause-becomes c = λ _ w before here.
    let starts : is_starter ucd c.args.c ≡ true = eq-eqb _ 0 (class_of c.args.c ∙ c.requires.class) in
    rw c.clear.ensures
    (becomes_next c.args._form c.requires.composing w before _ _ _ here _ (λ m held marks. c.close_off.ensures.closed m (c.as_slice.ensures.value ∙ held) marks) c.args.c starts
    (λ s m is. sym (c.joined_to.ensures s m (c.as_slice-2.ensures.value ∙ is)) ∙ c.in-None.is) _ (rw (← c.as_slice-in-None.ensures.value) (c.in_ok-append-in-None.ensures.some refl)))
