use Rattle.nf_filter.proofs.Common.{refl, append-nil, take-append-drop, rules, chars-nil, chars-append, IsUtf8, IsCharBoundary-at_seam}
use Rattle.nf_filter.proofs.TakingLemmas.{len_front, front_at, front_is}
use Rattle.nf_filter.proofs.taking.split_allowed.Goals as goal

pub returns-then-not-assigned-clause-whole : goal.returns-then-not-assigned-clause-whole
returns-then-not-assigned-clause-whole g c = simp (chars-nil, append-nil)

pub split_at-requires : goal.split_at-requires
split_at-requires g c =
    let here = c.past_assigned-rest.ensures.after in
    rw (len_front here) (IsCharBoundary-at_seam _ here.front _ here.split here.rest_utf8)

pub returns-clause-front : goal.returns-clause-front
returns-clause-front g c =
    let rest = c.past_assigned-rest.ensures in
    rw (c.if-not-assigned.false, c.split_at.ensures.front, front_at rest.after, front_is rest.after rest.stops) refl

pub returns-clause-whole : goal.returns-clause-whole
returns-clause-whole g c =
    let utf8 : IsUtf8 c.split_at.result.0.now = search rules in
    rw (← chars-append c.split_at.result.0.now c.split_at.result.1.now utf8, c.split_at.ensures.front, c.split_at.ensures.back, take-append-drop)
