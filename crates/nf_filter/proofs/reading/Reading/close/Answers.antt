use Rattle.nf_filter.proofs.Common.{append-nil, decoded_of, [], eq-eqb, ne_eqb, ◌≡◌, true, None, Ok, Err, ◌+◌, ap, sym, ◌∙◌, arith, ⊎_elim, replacement, allowed, whole_under, is_usable, settled_utf8}
use Rattle.nf_utf8.proofs.StandingLemmas.{stands_alone}
use Rattle.nf_utf8.proofs.ReplacingLemmas.{replacement-chars}
use Rattle.nf_utf8.proofs.SourceLemmas.{source-none}
use Rattle.nf_filter.proofs.WritesLemmas.{Puts-none, start_at, Written-none}
use Rattle.nf_filter.proofs.FilterLemmas.{write_or_kept}
use Rattle.nf_filter.proofs.PolicyLemmas.{first_fault-none, taken-all}
use Rattle.nf_filter.proofs.PieceLemmas.{place_in}
use Rattle.nf_filter.proofs.TakingLemmas.{one_placed}
use Rattle.nf_filter.proofs.FedLemmas.{read-settled, read-place, whole_is}
use Rattle.nf_filter.proofs.FinishLemmas.{close-strict, close-replaced}
use Rattle.nf_filter.proofs.reading.Reading.close.Goals as goal

pub returns-then-not-policy-clause-closes : goal.returns-then-not-policy-clause-closes
returns-then-not-policy-clause-closes g c = λ f base bytes read.
    close-strict read (grind (arith, c.if-not-policy.true)) _ c.end.result (c.end.ensures.end (base + read.read.n) _ (stands_alone _ read.read.begun) read.read.offset)
    (λ fault e write. rw (e ∙ ap Err write) at c.end.ensures.kinds)

pub returns-then-carried-eq0-clause-closes : goal.returns-then-carried-eq0-clause-closes
returns-then-carried-eq0-clause-closes g c = λ f base bytes read.
    let replaces : c.args.policy.replace ≡ true = grind (arith, c.if-not-policy.false) in
    let p = g.R.Rows.properties c.args.rows.now in
    let policy = c.args.policy in
    let whole = whole_under policy.replace bytes in
    let is : whole ≡ read.before = rw (eq-eqb _ 0 (sym c.carried-carried.ensures.count ∙ c.if-carried-eq0.true)) at (whole_is read replaces) ∙ append-nil read.before in
    let sound : is_usable p whole ≡ true = rw is read.taken.machine.usable in
    let all : allowed policy.assigned p whole ≡ whole = rw is read.allowed in
    close-replaced read replaces _ (Ok tt) (λ e. cc) (λ _. rw (taken-all p policy.assigned whole sound all, is, read-settled read) (Puts-none _ _))
    (λ _. sym (first_fault-none p policy.assigned (place_in policy.replace base bytes) whole None sound all)) (rw is read.taken, all)

pub returns-clause-closes : goal.returns-clause-closes
returns-clause-closes g c = λ f base bytes read.
    let replaces : c.args.policy.replace ≡ true = grind (arith, c.if-not-policy.false) in
    let place = place_in c.args.policy.replace base bytes in
    let start = start_at (g.S.Sink.state c.args.sink.now) (settled_utf8 c.args.policy f (g.R.Rows.properties c.args.rows.now) bytes) in
    let held = c.carried-carried.ensures.count in
    let takes = rw replacement-chars at c.take_allowed-taken.ensures.takes in
    let here = rw (← rw (ne_eqb _ 0 (λ e. c.if-carried-eq0.false (held ∙ e))) at (whole_is read replaces)) at
    (takes f place read.before start read.taken read.allowed (one_placed place _ _ read.before replacement (omega (arith, read-place read, held, read.read.offset, source-none (decoded_of [])))) (rw (read-settled read) (Written-none _ c.new-block.ensures.empty))) in
    let closed = c.close.ensures.gives _ _ here.writes in
    close-replaced read replaces _ c.close.result closed.broken (λ not. (closed.given not).0) (λ not. rw (closed.given not).1 (here.fault (λ e. not ((closed.given not).1 ∙ e))))
    (⊎_elim (λ e. rw e tt) (λ not. rw (closed.given not).1 here.taken) (write_or_kept c.close.result))

pub take_allowed-taken-requires-clause-counts : goal.take_allowed-taken-requires-clause-counts
take_allowed-taken-requires-clause-counts g c = rw replacement-chars (omega (arith, c.requires.ready.end.1, c.carried-carried.ensures.count, c.if-carried-eq0.false))
