use Rattle.std.proofs.Common.{drop, refl, arith, length-drop}
use Rattle.nf_span.proofs.lanes.window.Goals as goal

pub bounds-bytes-at : goal.bounds-bytes-at
bounds-bytes-at c =
    let bytes = c.args.bytes.now in
    omega (arith, c.requires, length-drop c.args.at bytes, (c.in-Some.ensures.next c.args.form (drop c.args.at bytes) (c.lead_looks.ensures _ refl (omega (arith, c.requires)))).1)
