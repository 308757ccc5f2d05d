use Rattle.nf_cmd.proofs.Common.{◌∙◌, ap₂, IfOk-weaker, with_rule, convert}
use Rattle.nf_cmd.proofs.line.convert.Goals as goal

pub returns-clause-shape : goal.returns-clause-shape
unfolding convert
returns-clause-shape c =
    let first = c.in_ok-convert.ensures.shape c.form.ensures.local ∙ ap₂ with_rule c.plain-convert.ensures.shape c.form.ensures.rule in
    let second = c.in_ok-convert-2.ensures.shape c.flag.ensures.local ∙ ap₂ with_rule first c.flag.ensures.rule in
    let third = c.in_ok-convert-3.ensures.shape c.flag-2.ensures.local ∙ ap₂ with_rule second c.flag-2.ensures.rule in
    IfOk-weaker c.arg-4.result _ _ (λ r h. h.shape c.flag-3.ensures.local ∙ ap₂ with_rule third c.flag-3.ensures.rule) c.arg-4.ensures
