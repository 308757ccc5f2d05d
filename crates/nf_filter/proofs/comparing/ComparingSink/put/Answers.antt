use Rattle.std.proofs.Common.{append-nil, append_assoc, length, length-append, length-drop, take-add, ap, arith}
use Rattle.std.proofs.lemmas.Grind.{common_steps}
use Rattle.nf_filter.proofs.Common.{take-append-le}
use Rattle.nf_filter.proofs.CommonLemmas.{common-le-left, common-le-right, common-none, take-common}
use Rattle.nf_filter.proofs.comparing.ComparingSink.put.Goals as goal

pub overflow_add-self : goal.overflow_add-self
overflow_add-self c = grind (arith, ap length c.next.ensures.front.1, length-append, length-drop, common-le-left)

pub invariant_of-self-then-len-gt0 : goal.invariant_of-self-then-len-gt0
invariant_of-self-then-len-gt0 c = grind (arith, ap length c.next.ensures.front.1, length-append, length-drop, common-le-left)

pub returns-then-len-gt0-clause-count : goal.returns-then-len-gt0-clause-count
returns-then-len-gt0-clause-count c = grind (arith, common-le-right)

pub returns-then-len-gt0-clause-taken : goal.returns-then-len-gt0-clause-taken
returns-then-len-gt0-clause-taken c = grind (arith, take-add, c.next.ensures.front.1, take-append-le, common-le-left, take-common, append-nil, append_assoc)

pub invariant_of-self-2 : goal.invariant_of-self-2
invariant_of-self-2 c = grind (arith, common_steps, common-none)
