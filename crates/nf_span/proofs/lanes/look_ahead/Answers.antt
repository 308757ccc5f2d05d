-- must-fail/a_look_passed_over_within_a_block.edit is refused at the first of these goals.
use Rattle.std.proofs.Common.{◌≡◌, ◌-◌, length, drop, drop-drop, length-drop, arith, refl}
use Rattle.nf_span.proofs.WindowLemmas.{before_look, further}
use Rattle.nf_span.proofs.lanes.look_ahead.Goals as goal

pub returns-in-Some-clause-ahead : goal.returns-in-Some-clause-ahead
returns-in-Some-clause-ahead c =
    let at = c.loop-at.at in
    let bytes = c.args.bytes.now in
    let here = c.past.ensures c.args.form (drop at bytes) c.window-window.ensures.window in
    record {
      before = before_look c.args.form bytes at _ c.loop-at.invariant (c.in-Some.ensures.next c.args.form (drop at bytes) c.window-window.ensures.window).0;
      window = rw (drop-drop c.in-Some.run' at bytes) at here;
    }

pub loop-at-preserved : goal.loop-at-preserved
loop-at-preserved c =
    let at = c.loop-at.at in
    let bytes = c.args.bytes.now in
    let long : length (drop at bytes) - c.window-window.result.after ≡ 16 = omega (arith, c.window-window.ensures.after, length-drop at bytes) in
    further c.args.form bytes at 16 c.loop-at.invariant (rw long at (c.in_default.ensures.none refl c.args.form (drop at bytes) c.window-window.ensures.window))
