use Rattle.nf_vectors.proofs.Common.{refl, arith, rules, tests, is_gap}
use Rattle.std.proofs.iter.Serving.{serving}
use Rattle.std.proofs.lemmas.Iterator.Splits.{YieldsList-from_slice_split}
use Rattle.nf_vectors.proofs.WordLemmas.{skipped, pushed, refused, empty, held, few}
use Rattle.nf_vectors.proofs.line.push_column.Goals as goal

pub loop-word-init : goal.loop-word-init
loop-word-init c = record {
  can = grind serving;
  ends = search rules;
  read = record { yields = YieldsList-from_slice_split _ is_gap c.args.column.now (cc) (cc) (cc) (λ x b q k. search (rules, tests)); so_far = refl };
}

pub loop-word-preserved-then-is_empty : goal.loop-word-preserved-then-is_empty
loop-word-preserved-then-is_empty c = record {
  can = search rules;
  ends = search rules;
  read = skipped c.loop-word.invariant.read c.loop-word.yielded_by c.next.ensures.steps c.in-Some.is c.is_empty.ensures c.if-is_empty.true;
}

pub loop-word-preserved : goal.loop-word-preserved
loop-word-preserved c = record {
  can = search rules;
  ends = search rules;
  read = rw c.in-Ok.ensures.items (pushed c.loop-word.invariant.read c.loop-word.yielded_by c.next.ensures.steps c.in-Some.is c.is_empty.ensures c.if-is_empty.false c.in_ok-c.c c.in_ok-c.ensures.value);
}

pub returns-in_err-c-clause-column : goal.returns-in_err-c-clause-column
returns-in_err-c-clause-column c =
    let bad = refused c.loop-word.invariant.read c.loop-word.yielded_by c.next.ensures.steps c.in-Some.is c.is_empty.ensures c.if-is_empty.false c.in_err-c.field-0.0 c.in_err-c.ensures.value in
    grind (arith, c.from_residual.ensures, bad)

pub returns-then-len-start-clause-column : goal.returns-then-len-start-clause-column
returns-then-len-start-clause-column c = λ _. empty c.loop-word.invariant.read c.loop-word.yielded_by c.next.ensures.steps c.in-None.is (omega arith)

pub overflow_cast-result : goal.overflow_cast-result
overflow_cast-result c = grind (arith, few c.loop-word.invariant.read c.loop-word.yielded_by c.next.ensures.steps c.in-None.is)

pub returns-clause-len : goal.returns-clause-len
returns-clause-len c = search (rules, few c.loop-word.invariant.read c.loop-word.yielded_by c.next.ensures.steps c.in-None.is)

pub returns-clause-column : goal.returns-clause-column
returns-clause-column c = held c.loop-word.invariant.read c.loop-word.yielded_by c.next.ensures.steps c.in-None.is (λ same. c.if-len-start.false (omega arith))
