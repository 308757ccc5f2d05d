use Rattle.nf_filter.proofs.Common.{ℕ, Result, Fault, Err, Row, WriteFault, ◌≡◌, ◌+◌, ◌-◌, [], ◌∷◌, ◌++◌, length, refl, sym, ◌∙◌, arith, rules, encode_utf8_all, append_assoc, length-append, usable-stop, IsUtf8, chars}
use Rattle.nf_filter.proofs.WritesLemmas.{WritesTo-written}
use Rattle.nf_filter.proofs.PolicyLemmas.{first_fault-stop}
use Rattle.nf_filter.proofs.TakingLemmas.{front_len, front-joined}
use Rattle.nf_filter.proofs.AllowingLemmas.{apart, given_to, given_and, stands-failed, stands-moved, Standing-moved}
use Rattle.nf_filter.proofs.counted.Counted.step.Goals as goal

pub returns-in-Err-clause-steps : goal.returns-in-Err-clause-steps
returns-in-Err-clause-steps g c = λ f place x start standing here. stands-failed _ standing.stands refl (c.in-Err.ensures.writes (apart start) _ (given_and standing _))

no_failure : {at : ℕ} → (let found : Result (Unit {0}) Fault = Err (Row at) in ¬ (found ≡ Err WriteFault))
no_failure e = cc

pub returns-in-Unsound-clause-steps : goal.returns-in-Unsound-clause-steps
returns-in-Unsound-clause-steps g c = λ f place x start standing placed.
    let p = g.R.Rows.properties c.args.rows.now in
    let text = c.args.text.now in
    let moved = Standing-moved standing c.in_default.ensures.writes in
    let stopped = rw c.in-Unsound.is at (c.step.ensures.steps f x (given_to start moved.given) moved.stands) in
    let refuses = stopped.refuses in
    let y = x ++ stopped.front in
    let utf8 : IsUtf8 c.in-Unsound.rest.now = search rules in
    let gone : c.args.seen + length (encode_utf8_all stopped.front) ≡ c.args.seen + length text - length c.in-Unsound.rest.now =
    omega (arith, front_len text stopped.front c.in-Unsound.rest.now c.utf8.text utf8 stopped.is_front) in
    let here : place y ≡ c.at.result = placed stopped.front refuses.first refuses.rest (rw refuses.is_first at stopped.is_front) ∙ rw (gone, ← c.at.ensures) refl in
    let whole : (y ++ refuses.first ∷ []) ++ refuses.rest ≡ x ++ chars text =
    rw (append_assoc y (refuses.first ∷ []) refuses.rest, ← refuses.is_first) (front-joined x (chars text) stopped.front (chars c.in-Unsound.rest.now) stopped.is_front) in
    rw (← whole) (record {
      writes = WritesTo-written no_failure (rw (usable-stop p y refuses.first refuses.rest refuses.usable refuses.unusable) (record { given = moved.given; puts = moved.puts; text = refuses.holds.text }));
      fault = λ _. rw here at (sym (first_fault-stop p y refuses.first refuses.rest refuses.usable refuses.unusable place));
      taken = tt;
    })

pub returns-in-Ok-clause-steps : goal.returns-in-Ok-clause-steps
returns-in-Ok-clause-steps g c = λ f place x start standing here.
    let moved = Standing-moved standing c.in_default.ensures.writes in
    let steps = rw c.in-Taken.is at (c.step.ensures.steps f x (given_to start moved.given) moved.stands) in
    let written = c.in-Ok.ensures.writes (apart start) _ (given_and moved _) in
    record {
      front = steps.front;
      is_front = steps.is_front;
      taken = record { given = written.given; puts = written.puts; stands = stands-moved steps.stands (append_assoc moved.given _ _) written; put = omega (arith, length-append x steps.front) };
    }

pub returns-in-Err-push_form-clause-steps : goal.returns-in-Err-push_form-clause-steps
returns-in-Err-push_form-clause-steps g c = λ f place x start standing here.
    let moved = Standing-moved standing c.in_default.ensures.writes in
    let steps = rw c.in-Taken.is at (c.step.ensures.steps f x (given_to start moved.given) moved.stands) in
    rw (← front-joined x (chars c.args.text.now) steps.front (chars c.in-Taken.rest.now) steps.is_front)
    (stands-failed _ steps.stands (append_assoc moved.given _ _) (c.in-Err-push_form.ensures.writes (apart start) _ (given_and moved _)))
