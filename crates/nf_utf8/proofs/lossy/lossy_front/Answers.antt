use Rattle.nf_utf8.proofs.Common.{true, take, arith, take_rest, IsUtf8-nil, chars-nil}
use Rattle.nf_utf8.proofs.LeftLemmas.{IsLeft-all}
use Rattle.nf_utf8.proofs.ReplacingLemmas.{one_stretch}
use Rattle.nf_utf8.proofs.lossy.lossy_front.Goals as goal

pub loop-text-init : goal.loop-text-init
loop-text-init c = rw chars-nil (record { room = omega arith; text = IsUtf8-nil; left = IsLeft-all true c.args.bytes.now; within = omega arith })

pub loop-text-preserved : goal.loop-text-preserved
loop-text-preserved c =
    let i = c.loop-text.invariant in
    let next = rw take_rest at c.in-Some.ensures.some in
    let replaced = one_stretch c.args.bytes.now (take c.loop-text.text c.loop-text.lossy-inside.bytes) c.loop-text.len c.in-Some.stretch i.text i.left next.is in
    rw next.text (record { room = omega (arith, next.few, c.loop-text-test.true); text = replaced.text; left = replaced.left; within = replaced.within })
