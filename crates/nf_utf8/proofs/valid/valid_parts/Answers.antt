use Rattle.nf_utf8.proofs.Common.{◌-◌, ◌≤◌, drop, arith, length-drop, length-take, take-take, longer}
use Rattle.nf_utf8.proofs.TextLen.{front_to}
use Rattle.nf_utf8.proofs.valid.valid_parts.Goals as goal

pub returns-in-Err : goal.returns-in-Err
returns-in-Err c =
    let at = c.loop-at.at in
    let end = c.char_start-end.result in
    let n = c.valid_up_to.result in
    let valid = c.in-Err.ensures.cases.1 in
    let few : n ≤ end - at = omega (arith, valid.short, length-take (end - at) (drop at c.args.bytes.now)) in (
      omega (arith, length-drop at c.args.bytes.now),
      longer c.args.bytes.now at n c.loop-at.invariant.front (rw take-take at (rw (← c.valid_up_to.ensures) at valid.front)),
    )

pub loop-at-preserved-then-size-lt-LARGEST : goal.loop-at-preserved-then-size-lt-LARGEST
loop-at-preserved-then-size-lt-LARGEST c =
    grind (arith, front_to c.args.bytes.now c.loop-at.at c.loop-at.invariant.within c.loop-at.invariant.front c.char_start-end.result (omega arith) c.in-Ok.ensures.cases.1)

pub loop-at-preserved : goal.loop-at-preserved
loop-at-preserved c =
    grind (arith, front_to c.args.bytes.now c.loop-at.at c.loop-at.invariant.within c.loop-at.invariant.front c.char_start-end.result (omega arith) c.in-Ok.ensures.cases.1)
