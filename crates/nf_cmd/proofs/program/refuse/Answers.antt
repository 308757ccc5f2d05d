use Rattle.nf_cmd.proofs.Common.{◌∙◌, rules, refl, sym, not-false, DisplayHelp}
use denote.Enum.Bare.{same_true}
use Rattle.clap.specs.contracts.error.kind.ErrorKind.{the_type}
use Rattle.nf_cmd.proofs.RunsLemmas.{help_answers}
use Rattle.nf_cmd.proofs.program.refuse.Goals as goal

pub returns-in-Ok-write_whole : goal.returns-in-Ok-write_whole
returns-in-Ok-write_whole g c input input_after =
    let help = same_true the_type (search rules) c.kind-kind.result DisplayHelp (not-false _ (sym c.ne.ensures ∙ c.if-ne.false)) in
    help_answers _ _ (sym help ∙ c.kind-kind.ensures) refl
