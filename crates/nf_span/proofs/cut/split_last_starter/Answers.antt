use Rattle.std.proofs.Common.{rules}
use Rattle.std.proofs.lemmas.List.{nil_from_length}
use Rattle.nf_span.proofs.CutLemmas.{no_marks, all_marks, one_mark_more, front_boundary, splits_at_starter, is_first}
use Rattle.nf_span.proofs.cut.split_last_starter.Goals as goal

pub loop-c-init : goal.loop-c-init
loop-c-init c = rw c.chars-chars.ensures.rest (no_marks c.args.text.now c.utf8.text)

pub split_at-requires : goal.split_at-requires
split_at-requires c = front_boundary c.loop-c.invariant c.in-Some.c (search rules) c.as_str-before.utf8 (rw c.as_str-before.ensures c.in-Some.ensures.steps)

pub returns-then-not-counts_as_mark-clause-splits : goal.returns-then-not-counts_as_mark-clause-splits
returns-then-not-counts_as_mark-clause-splits c =
    splits_at_starter c.loop-c.invariant c.in-Some.c (search rules) c.as_str-before.utf8 (rw c.as_str-before.ensures c.in-Some.ensures.steps) (search rules)
    c.split_at.ensures.front c.split_at.ensures.back

pub returns-then-not-counts_as_mark-clause-known : goal.returns-then-not-counts_as_mark-clause-known
returns-then-not-counts_as_mark-clause-known c =
    is_first c.loop-c.invariant c.in-Some.c (search rules) c.as_str-before.utf8 (rw c.as_str-before.ensures c.in-Some.ensures.steps) c.of-known.result c.of-known.ensures c.split_at.ensures.back

pub loop-c-preserved : goal.loop-c-preserved
loop-c-preserved c =
    rw (← c.as_str-before.ensures)
    (one_mark_more c.loop-c.invariant c.in-Some.c (search rules) c.as_str-before.utf8 (rw c.as_str-before.ensures c.in-Some.ensures.steps) (search rules))

pub returns-clause-splits : goal.returns-clause-splits
returns-clause-splits c = all_marks c.args.text.now (rw (nil_from_length _ c.in_default.ensures.steps.0) at c.loop-c.invariant)
