use Rattle.nf_filter.proofs.Common.{◌≡◌, ℕ, ◌+◌, ◌-◌, ◌<◌, ◌≤◌, length, ◌∙◌, arith, List, ◌++◌, take, drop, take-take, length-drop, length-take, false≢true}
use Rattle.std.proofs.Math.Seq.{take-add}
use Rattle.nf_filter.proofs.WritesLemmas.{Puts-more}
use Rattle.nf_filter.proofs.block.put_all.Goals as goal

part : (bytes : List ℕ) (at end n : ℕ) → n ≤ length (take (end - at) (drop at bytes)) → take at bytes ++ take n (take (end - at) (drop at bytes)) ≡ take (at + n) bytes
part bytes at end n few = rw (take-take n (end - at) (drop at bytes) (omega (arith, length-take (end - at) (drop at bytes))), take-add at n bytes)

pub loop-at-preserved : goal.loop-at-preserved
loop-at-preserved g c =
    let ends = c.slice_end.ensures in
    let some : 0 < length (take (c.slice_end.result - c.loop-at.at) (drop c.loop-at.at c.args.bytes.now)) = omega (arith, length-drop {A = ℕ}) in
    record {
      within = omega (arith, ends.some, ends.within, c.in-Ok.ensures.count, length-drop {A = ℕ});
      puts = rw (← part c.args.bytes.now c.loop-at.at c.slice_end.result c.in-Ok.n c.in-Ok.ensures.count.0) (Puts-more _ c.loop-at.invariant.puts c.in-Ok.ensures.taken c.in-Ok.ensures.stands (λ e. absurd (false≢true (c.in-Ok.ensures.for_good e some))));
      lender = c.in-Ok.ensures.lender ∙ c.loop-at.invariant.lender;
    }
