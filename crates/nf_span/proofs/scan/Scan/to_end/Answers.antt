use Rattle.std.proofs.Common.{subst}
use Rattle.nf_span.specs.Scan.{Ends, ReachesEnd}
use Rattle.nf_span.proofs.scan.Scan.to_end.Goals as goal

pub returns-in-Err-clause-ends : goal.returns-in-Err-clause-ends
returns-in-Err-clause-ends g c = subst (λ f. Ends f c.in-Err.end.scan) c.form_of-form.ensures c.in-Err.ensures.ends

pub returns-in-Err-clause-span : goal.returns-in-Err-clause-span
returns-in-Err-clause-span g c =
    subst (λ f. ReachesEnd f c.args.text.now c.in-Err.end) c.form_of-form.ensures
    (c.in-Err.ensures.reaches c.args.text.now (c.past.ensures.span c.args.text.now c.loop-next.invariant.span))
