use Rattle.nf_filter.proofs.Common.{◌≡◌, ℕ, append-nil, ◌++◌, [], take, refl, sym, ap, ◌∙◌, arith, Err, Some, eq-eqb, ne_eqb, length-take, Consumes-kept, Consumes-trans, Ending, Whole, ending_of, TooLong, answer_at_end}
use Rattle.nf_filter.proofs.SurveysLemmas.{no_more}
use Rattle.nf_filter.proofs.sources.survey.Goals as goal

-- an end is no refusal of a length
not_long : {T : Type 0} (base : ℕ) (value : T) (ending : Ending) → ¬ (answer_at_end base value ending ≡ Err TooLong)
not_long base value Whole e = cc
not_long base value _ e = cc

pub returns-in-Err-clause-surveys : goal.returns-in-Err-clause-surveys
returns-in-Err-clause-surveys g c = λ survey begun.
    let fed = c.loop-given.invariant.fed in
    let stands = g.met.S.Surveyor.stands _ survey fed.0 (fed.2 survey begun) in
    no_more _ (Consumes-kept _ _ _ fed.0 fed.1 c.in-Err.ensures.kept) (λ end. cc c.in-Err.ensures.failed.1) stands.0
    (omega arith) (λ e. cc) (λ end. cc c.in-Err.ensures.failed.1) (λ _. refl)

pub returns-then-given-eq0-clause-surveys : goal.returns-then-given-eq0-clause-surveys
returns-then-given-eq0-clause-surveys g c = λ survey begun.
    let fed = c.loop-given.invariant.fed in
    let taken = fed.2 survey begun in
    let stands = g.met.S.Surveyor.stands _ survey fed.0 taken in
    let is = c.end.ensures.ends survey fed.0 taken in
    no_more _ (rw (append-nil fed.0) at (Consumes-trans _ _ _ fed.0 [] fed.1 (rw c.if-given-eq0.true at c.in-Ok.ensures.given))) (λ _. c.in-Ok.ensures.read_out c.if-given-eq0.true) stands.0
    (omega arith) (λ e. not_long survey.base (survey.value fed.0) (ending_of fed.0) (sym is ∙ e)) (λ _. is) (λ going. cc (c.in-Ok.ensures.end ∙ eq-eqb c.in-Ok.given 0 c.if-given-eq0.true))

pub returns-in-Some-clause-surveys : goal.returns-in-Some-clause-surveys
returns-in-Some-clause-surveys g c = λ survey begun.
    let fed = c.loop-given.invariant.fed in
    let taken = fed.2 survey begun in
    let stands = g.met.S.Surveyor.stands _ survey fed.0 taken in
    let piece = take c.in-Ok.given c.get.new.buf in
    let over = c.in-Some.ensures.too_long in
    let before_end = c.in-Ok.ensures.end ∙ ne_eqb c.in-Ok.given 0 c.if-given-eq0.false in
    record {
      before = fed.0;
      last = piece;
      given = Consumes-trans _ _ _ fed.0 piece fed.1 c.in-Ok.ensures.given;
      few = omega (arith, length-take c.in-Ok.given c.get.new.buf);
      read_out = λ end. cc before_end;
      undecided = stands.0;
      too_long = (λ e. omega (arith, over.0 (ap Some e)), λ long. cc (over.1 (omega arith)));
      failed = λ e. absurd ((rw e at c.in-Some.ensures.faults).1);
      ended = λ end. cc before_end;
      decided = λ _ short _. sym (c.in-Some.ensures.decides survey fed.0 taken (λ e. short (cc))).0;
    }

pub loop-given-preserved : goal.loop-given-preserved
loop-given-preserved g c =
    let fed = c.loop-given.invariant.fed in
    let piece = take c.in-Ok.given c.get.new.buf in
    let next = c.in_default.ensures.goes_on refl in
    record {
      room = c.get.auto.buf ∙ c.loop-given.invariant.room;
      ready = next.0;
      fits = grind (arith, c.in_default.ensures.too_long, next.1);
      fed = (
        fed.0 ++ piece,
        Consumes-trans _ _ _ fed.0 piece fed.1 c.in-Ok.ensures.given,
        λ survey begun. (c.in_default.ensures.decides survey fed.0 (fed.2 survey begun) (λ e. cc)).1 refl,
      );
      lender = c.get.ensures.lender ∙ c.loop-given.invariant.lender;
    }
