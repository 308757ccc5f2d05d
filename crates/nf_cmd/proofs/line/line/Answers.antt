use Rattle.nf_cmd.proofs.Common.{◌∙◌, ap, ap₂, IfOk-weaker, texts, line}
use Rattle.clap.specs.Words.{App, with_subcommand}
use Rattle.nf_cmd.proofs.line.line.Goals as goal

pub returns : goal.returns
unfolding line
returns c =
    let third = c.in_ok-line-2.ensures.shape c.plain.ensures.local ∙ ap₂ with_subcommand c.in_ok-line.ensures (ap (λ (a : App). a.top) c.plain.ensures.shape) in
    IfOk-weaker c.subcommand-2.result _ _
    (λ r h. (c.as_slice.result, ap texts c.as_slice.ensures, h.shape c.plain-2.ensures.local ∙ ap₂ with_subcommand third (ap (λ (a : App). a.top) c.plain-2.ensures.shape))) c.subcommand-2.ensures
