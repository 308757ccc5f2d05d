use Rattle.nf_cmd.proofs.Common.{◌∙◌, ap, ap₂, IfOk-weaker}
use Rattle.clap.specs.Words.{App, with_subcommand}
use Rattle.nf_cmd.proofs.line.with_forms.Goals as goal

pub returns : goal.returns
returns c =
    let first = c.in_ok-line.ensures.shape c.in_ok-convert.ensures.local ∙ ap₂ with_subcommand c.program.ensures (ap (λ (a : App). a.top) c.in_ok-convert.ensures.shape) in
    IfOk-weaker c.subcommand-2.result _ _
    (λ r h. h.shape c.in_ok-check.ensures.local ∙ ap₂ with_subcommand first (ap (λ (a : App). a.top) c.in_ok-check.ensures.shape)) c.subcommand-2.ensures
