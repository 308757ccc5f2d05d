use Rattle.nf_filter.proofs.Common.{rules, subst, arith, ◌++◌}
use Rattle.nf_filter.proofs.TakingLemmas.{joined, offset_after, takes-more, takes-whole}
use Rattle.nf_filter.proofs.taker.take_text.Goals as goal

pub loop-rest-preserved : goal.loop-rest-preserved
loop-rest-preserved g c = record {
  utf8 = search rules;
  left = omega (arith, c.in-Ok.ensures.shorter, c.loop-rest.invariant.left);
  ready = subst (g.T.Taker.ends_at c.take_front.new.self) (omega (arith, c.in-Ok.ensures.shorter, c.loop-rest.invariant.left)) c.in-Ok.ensures.ready;
  taken = λ base x before begun.
      let here = c.loop-rest.invariant.taken base x before begun in
      takes-more here (c.in-Ok.ensures.takes base (x ++ here.front) here.taken (offset_after here base c.utf8.text c.loop-rest.invariant.utf8 begun));
}

pub returns-in-Err-clause-takes : goal.returns-in-Err-clause-takes
returns-in-Err-clause-takes g c = λ base x before begun.
    let here = c.loop-rest.invariant.taken base x before begun in
    rw (joined here) at (c.in-Err.ensures.takes base (x ++ here.front) here.taken (offset_after here base c.utf8.text c.loop-rest.invariant.utf8 begun))

pub returns-clause-takes : goal.returns-clause-takes
returns-clause-takes g c = λ base x before begun. takes-whole (c.loop-rest.invariant.taken base x before begun) (search rules)
