use Rattle.std.proofs.Common.{◌∙◌, sym}
use Rattle.nf_forms.specs.Order.{order}
use Rattle.nf_forms.specs.Laws.Ordering.{ordering, order-only}
use Rattle.nf_forms.proofs.laws.ordering_is_stable.Goals as goal

pub returns-clause-ordering : goal.returns-clause-ordering
returns-clause-ordering c = ordering

pub returns-clause-only : goal.returns-clause-only
returns-clause-only c = λ p w v is. order-only p v (order p w) is.ordered ((ordering p w).ordered) (λ k. is.stable k ∙ sym ((ordering p w).stable k))
