use Rattle.nf_utf8.proofs.Common.{sym, ◌∙◌}
use Rattle.nf_utf8.proofs.ReplacingLemmas.{stretch_is}
use Rattle.nf_utf8.proofs.lossy.short_stretch.Goals as goal

pub returns-clause-is : goal.returns-clause-is
returns-clause-is c =
    let error = c.in-Err.ensures in
    let told = rw error.valid_len at (sym error.fault ∙ sym c.error_len.ensures ∙ c.in_ok-part.was) in
    rw (c.valid_up_to-text.ensures ∙ error.valid_len) (stretch_is c.args.bytes.now c.min.result c.in_ok-part.part told)
