use Rattle.nf_cmd.proofs.Common.{rules, take, subst, sym, append-nil, take-add, take-append-drop, Appends, Appends-trans}
use Rattle.std.proofs.lemmas.List.{take_rest, take_all}
use Rattle.nf_cmd.proofs.writing.write_front.Goals as goal

pub loop-at-preserved : goal.loop-at-preserved
loop-at-preserved g c =
    let bytes = c.args.bytes.now in
    (search rules, rw (take-add c.loop-at.at c.in-Ok.n bytes, ← take_rest bytes c.loop-at.at) (Appends-trans _ _ _ _ _ c.loop-at.invariant.1 c.in-Ok.ensures.bytes))

pub returns-in-Ok-eq0-clause-front : goal.returns-in-Ok-eq0-clause-front
returns-in-Ok-eq0-clause-front g c =
    let written = take c.loop-at.at c.args.bytes.now in
    (_, _, sym (take-append-drop c.loop-at.at c.args.bytes.now), subst (Appends _ _) (append-nil written) (Appends-trans _ _ _ _ _ c.loop-at.invariant.1 (rw c.in-Ok-eq0.field-0-test at c.in-Ok-eq0.ensures.bytes)))

pub returns-in-Err-clause-front : goal.returns-in-Err-clause-front
returns-in-Err-clause-front g c = (take c.loop-at.at c.args.bytes.now, _, sym (take-append-drop c.loop-at.at c.args.bytes.now), search rules)

pub returns-clause-all : goal.returns-clause-all
returns-clause-all g c = search (rules, take_all)

pub returns-clause-front : goal.returns-clause-front
returns-clause-front g c = (_, _, sym (take-append-drop c.loop-at.at c.args.bytes.now), c.loop-at.invariant.1)
