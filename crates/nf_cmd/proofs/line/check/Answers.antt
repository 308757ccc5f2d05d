use Rattle.nf_cmd.proofs.Common.{◌∙◌, ap₂, IfOk-weaker, with_rule, check}
use Rattle.nf_cmd.proofs.line.check.Goals as goal

pub returns-clause-shape : goal.returns-clause-shape
unfolding check
returns-clause-shape c =
    let first = c.in_ok-check.ensures.shape c.form.ensures.local ∙ ap₂ with_rule c.plain-check.ensures.shape c.form.ensures.rule in
    IfOk-weaker c.arg-2.result _ _ (λ r h. h.shape c.flag.ensures.local ∙ ap₂ with_rule first c.flag.ensures.rule) c.arg-2.ensures
