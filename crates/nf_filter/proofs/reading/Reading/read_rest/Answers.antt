use Rattle.nf_filter.proofs.Common.{length, refl, ap, ◌∙◌, arith, rules, length-drop, nil_from_length, take_rest}
use Rattle.nf_filter.proofs.NextLemmas.{bad-refused, next-size, next-taken, next-refused, no_write}
use Rattle.nf_filter.proofs.reading.Reading.read_rest.Goals as goal

pub returns-in-Err-clause-reads : goal.returns-in-Err-clause-reads
returns-in-Err-clause-reads g c = λ f base bytes start both.
    let bad = c.in-Err.ensures.bad in
    bad-refused (c.loop-left.invariant.reads f base bytes start both) bad.0 bad.1 bad.2 (no_write c.in-Err.fault c.in-Err.ensures.kinds)

pub loop-left-preserved : goal.loop-left-preserved
loop-left-preserved g c =
    let next = c.in-Ok.ensures.reads in
    let read = next-size next.0 in
    record {
      ready = record { held = omega (arith, read, next.1, c.loop-left.invariant.ready.held); end = (c.in_default.ensures.within, omega (arith, read, next.0.left.few, next.1, c.in_default.ensures.chars, c.loop-left.invariant.ready.end.1)) };
      offset = omega (arith, next.0.within, next.1, c.loop-left.invariant.offset, ap length (take_rest c.loop-left.left.now c.in-Ok.next.len), length-drop c.in-Ok.next.len c.loop-left.left.now);
      reads = λ f base bytes start both.
          rw (take_rest c.loop-left.left.now c.in-Ok.next.len) (next-taken (c.loop-left.invariant.reads f base bytes start both) next.0 (rw c.carried.ensures.count refl) c.in_default.ensures.takes refl _ refl next.1 c.in-Ok.ensures.begun);
      lender = c.in_default.ensures.lender ∙ c.loop-left.invariant.lender;
    }

pub returns-in-Err-take_allowed-clause-reads : goal.returns-in-Err-take_allowed-clause-reads
returns-in-Err-take_allowed-clause-reads g c = λ f base bytes start both.
    next-refused (c.loop-left.invariant.reads f base bytes start both) c.in-Ok.ensures.reads.0 (rw c.carried.ensures.count refl) c.in-Err-take_allowed.ensures.takes refl

pub returns-clause-reads : goal.returns-clause-reads
returns-clause-reads g c = λ f base bytes start both.
    rw (nil_from_length c.loop-left.left.now (search rules)) at (c.loop-left.invariant.reads f base bytes start both)
