use Rattle.nf_filter.proofs.Common.{◌++◌, length, refl, ap, arith, rules, subst, chars, encodes-chars, length-drop, take_rest}
use Rattle.nf_filter.proofs.NextLemmas.{next-size, next-reads}
use Rattle.nf_filter.proofs.ReadingLemmas.{reads-at, reads-decides, reads-bad}
use Rattle.nf_filter.proofs.text_reader.read_piece.Goals as goal

pub returns-in-Err-clause-reads : goal.returns-in-Err-clause-reads
returns-in-Err-clause-reads g c = λ base bytes reads.
    let here = c.loop-left.invariant.reads base bytes reads in
    let bad = c.in-Err.ensures.bad in
    let p = g.R.Rows.properties c.args.rows.now in
    reads-bad here (g.T.Taker.decides p base) (g.met.T.Taker.undecided p c.loop-left.taker base here.before here.taken) bad.1 bad.2

pub take_text-requires-clause-fits : goal.take_text-requires-clause-fits
take_text-requires-clause-fits g c =
    let next = c.in-Ok.ensures.reads.0 in
    omega (arith, next-size next, next.left.own refl, ap length (encodes-chars c.in-Ok.next.text.now (search rules)), next.within, c.carried.ensures.count, c.loop-left.invariant.offset, c.requires.fits)

pub returns-in-Some-clause-reads : goal.returns-in-Some-clause-reads
returns-in-Some-clause-reads g c = λ base bytes reads.
    let here = c.loop-left.invariant.reads base bytes reads in
    let at = c.carried.ensures.count in
    reads-decides here (g.T.Taker.decides (g.R.Rows.properties c.args.rows.now) base) c.in-Ok.next.text.now c.in-Ok.ensures.reads.0.left (c.in-Some.ensures.takes base here.before here.taken (omega (arith, reads-at here, at)))

pub loop-left-preserved : goal.loop-left-preserved
loop-left-preserved g c =
    let next = c.in-Ok.ensures.reads.0 in
    let size = ap length (encodes-chars c.in-Ok.next.text.now (search rules)) in
    record {
      ready = record {
        held = omega (arith, next-size next, c.in-Ok.ensures.reads.1, c.loop-left.invariant.ready.held);
        end = subst (g.T.Taker.ends_at c.take_text.new.taker) (omega (arith, next-size next, next.left.own refl, size, c.in-Ok.ensures.reads.1, c.carried.ensures.count)) (c.in_default.ensures.ready refl);
      };
      offset = omega (arith, next.within, c.in-Ok.ensures.reads.1, c.loop-left.invariant.offset, ap length (take_rest c.loop-left.left.now c.in-Ok.next.len), length-drop c.in-Ok.next.len c.loop-left.left.now);
      reads = λ base bytes reads.
          let here = c.loop-left.invariant.reads base bytes reads in
          rw (take_rest c.loop-left.left.now c.in-Ok.next.len) (record {
            before = here.before ++ chars c.in-Ok.next.text.now;
            read = next-reads next refl refl c.in-Ok.ensures.reads.1 c.in-Ok.ensures.begun here.read;
            taken = c.in_default.ensures.takes base here.before here.taken (omega (arith, reads-at here, c.carried.ensures.count));
          });
    }
