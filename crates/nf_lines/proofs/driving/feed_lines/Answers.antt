use Rattle.nf_lines.proofs.Common.{◌≡◌, ◌∙◌, ◌-◌, ◌++◌, [], length, take, drop, Ok, Err, refl, inr, ap, arith, append-nil, length-append, take-append-drop, length-drop, as_is, state_of}
use Rattle.std.proofs.lemmas.List.{take_rest}
use Rattle.nf_lines.proofs.StepLemmas.{cut_after, fed_lines, ended_lines}
use Rattle.nf_lines.proofs.driving.feed_lines.Goals as goal

pub returns-then-n-eq0-clause-feeds : goal.returns-then-n-eq0-clause-feeds
returns-then-n-eq0-clause-feeds g c = λ first l has.
    let fed = c.feed.ensures in
    fed_lines c.lines_stand_alone.ensures has fed.feeds fed.stands fed.base (λ e. ap g.S.Sink.state (fed.kept (inr e)).1)
    [] (rw append-nil) (rw append-nil (omega arith)) (λ _. (refl, rw c.if-n-eq0.true at c.lines_len-n.ensures.rest))

pub returns-in-Err-clause-feeds : goal.returns-in-Err-clause-feeds
returns-in-Err-clause-feeds g c = λ first l has.
    let both = take-append-drop c.lines_len-n.result c.args.piece.now in
    let fed = c.in-Err.ensures in
    fed_lines c.lines_stand_alone.ensures has fed.feeds fed.stands fed.base (λ e. ap g.S.Sink.state (fed.kept (inr e)).1)
    (drop c.lines_len-n.result c.args.piece.now) (rw both) (rw both (omega arith)) (λ e. cc)

pub returns-in-Err-finish-clause-feeds : goal.returns-in-Err-finish-clause-feeds
returns-in-Err-finish-clause-feeds g c = λ first l has.
    let fed = c.in_default.ensures in
    let lines = ended_lines c.lines_stand_alone.ensures has (cut_after c.if-n-eq0.false c.lines_len-n.ensures) fed.feeds fed.stands fed.base (Err c.in-Err-finish.fault) (rw c.replace.ensures.value at c.in-Err-finish.ensures.finishes) (λ e. cc) in
    let after = drop c.lines_len-n.result c.args.piece.now in
    (lines.0, after, lines.1 after _ (take-append-drop c.lines_len-n.result c.args.piece.now), omega (arith, length-drop c.lines_len-n.result c.args.piece.now), λ e. cc, lines.2)

pub returns-clause-feeds : goal.returns-clause-feeds
returns-clause-feeds g c = λ first l has.
    let front = take c.lines_len-n.result c.args.piece.now in
    let after = take (length c.args.piece.now - c.lines_len-n.result) (drop c.lines_len-n.result c.args.piece.now) in
    let both : front ++ after ≡ c.args.piece.now = rw (take_rest, take-append-drop) refl in
    let fed = c.in_default.ensures in
    let last = c.feed-3.ensures in
    let base = c.policy-next.ensures.base ∙ c.quickest.ensures.base ∙ c.offset.ensures ∙ fed.offset in
    let fresh = c.policy-next.ensures.stands as_is c.args.form [] c.quickest.ensures.stands in
    let lines = ended_lines c.lines_stand_alone.ensures has (cut_after c.if-n-eq0.false c.lines_len-n.ensures) fed.feeds fed.stands fed.base {fresh = state_of c.replace.new.dest} (Ok c.in_default-finish.field-0)
    (rw c.replace.ensures.value at c.in_default-finish.ensures.finishes) (λ _. rw (ap (λ f. state_of f) c.replace.ensures.after) (base, fresh)) in
    fed_lines c.lines_stand_alone.ensures lines.2 last.feeds last.stands last.base (λ e. ap g.S.Sink.state (last.kept (inr e)).1)
    [] (lines.1 (after ++ []) _ (rw append-nil both)) (rw append-nil (omega (arith, ap length both, length-append front after))) (λ _. (refl, rw (take_rest c.args.piece.now c.lines_len-n.result) c.lines_len-n.ensures.rest))
