use Rattle.std.proofs.Common.{length, refl, sym, ap, subst, arith, length-drop}
use Rattle.nf_span.specs.Window.{IsWindow}
use Rattle.nf_span.proofs.ScanLemmas.{left_after}
use Rattle.nf_span.proofs.scan.Scan.over_window.Goals as goal

pub returns-in-Err-clause-ends : goal.returns-in-Err-clause-ends
returns-in-Err-clause-ends c = c.in-Err.ensures.stops refl

pub returns-in-Err-clause-reaches : goal.returns-in-Err-clause-reaches
returns-in-Err-clause-reaches c = λ text here.
    let reaches = c.loop-next.invariant.span text here in
    record { reaches = reaches; next = c.in-Err.ensures.next text reaches }

pub returns-in_default-clause-plain : goal.returns-in_default-clause-plain
returns-in_default-clause-plain c = rw c.saturating_sub.ensures (c.in_default.ensures.none refl c.args.form c.in-Ok.next.rest.now (left_after c.in-Ok.ensures.rest c.past-left.result (c.past-left.ensures c.args.form c.loop-next.scan.rest.now c.loop-next.invariant.window)))

pub past-scan-requires : goal.past-scan-requires
past-scan-requires c = (c.in-Some.ensures.next c.args.form c.in-Ok.next.rest.now (left_after c.in-Ok.ensures.rest c.past-left.result (c.past-left.ensures c.args.form c.loop-next.scan.rest.now c.loop-next.invariant.window))).0

pub loop-next-preserved : goal.loop-next-preserved
loop-next-preserved c =
    let rest = c.in-Ok.next.rest.now in
    let window = c.past-left-in-loop-next.ensures c.args.form rest (left_after c.in-Ok.ensures.rest c.past-left.result (c.past-left.ensures c.args.form c.loop-next.scan.rest.now c.loop-next.invariant.window)) in
    record {
      span = λ text here. c.past-scan.ensures.span text (c.in-Ok.ensures.span text (c.loop-next.invariant.span text here));
      within = omega (arith, c.loop-next.invariant.within, c.in-Ok.ensures.rest.shorter, ap length c.past-scan.ensures.rest, length-drop c.in-Some.run' rest);
      window = subst (λ t. IsWindow c.args.form t c.past-left-in-loop-next.result) (sym c.past-scan.ensures.rest) window;
    }
