use Rattle.nf_utf8.proofs.Common.{◌≡◌, ◌-◌, arith, encode_utf8, length, length-drop, drop-drop, take_rest, decoded_of, drop}
use Rattle.nf_utf8.proofs.SourceLemmas.{source-next, source-none}
use Rattle.nf_utf8.proofs.source.source_len.Goals as goal

pub loop-left-preserved : goal.loop-left-preserved
loop-left-preserved c =
    let first = rw take_rest at c.in-Some.ensures.some in
    let less : c.loop-left.left - length (encode_utf8 first.3.0) ≡ c.saturating_sub-left.result = omega (arith, first.3.1, c.saturating_sub-left.ensures) in
    record {
      within = omega (arith, first.2, c.loop-left.invariant.within, length-drop c.loop-left.at c.args.bytes.now);
      passed = omega (arith, c.loop-left.invariant.passed, rw (less, drop-drop) at (source-next _ _ first.3.0 c.in-Some.first.len c.loop-left.left (omega arith) first.3.2));
    }

pub returns-clause-value : goal.returns-clause-value
returns-clause-value c =
    let none : c.loop-left.left ≡ 0 = omega arith in
    omega (arith, rw none at c.loop-left.invariant.passed, source-none (decoded_of (drop c.loop-left.at c.args.bytes.now)))
