use Rattle.nf_cmd.proofs.Common.{◌∙◌, ap, sym, both, texts, IsRefusal, request_of}
use Rattle.clap.specs.Values.{kind_of}
use Rattle.clap.proofs.TakesLemmas.{passed_up}
use Rattle.nf_cmd.proofs.Requests.{line_lacks, line_refused, line_simple}
use Rattle.nf_cmd.proofs.line.parse.Goals as goal

pub returns-in_err-matches-clause-refused : goal.returns-in_err-matches-clause-refused
returns-in_err-matches-clause-refused c =
    let is = c.in_ok-line.ensures in
    passed_up _ _ (λ e. IsRefusal (texts c.args.words.now) (kind_of e)) c.from_residual-in_err-matches.ensures.1
    (line_refused is c.in_err-matches.ensures.passes (c.in_err-matches.ensures.kinds (line_simple is)))

pub returns-in-Some-clause-asked : goal.returns-in-Some-clause-asked
returns-in-Some-clause-asked c =
    let is = c.in_ok-line.ensures in
    let entered = (c.in_ok-matches.ensures.matches (both _ _ (line_simple is)).0).1 in
    record { app = _; is_line = is; faultless = c.in_ok-matches.ensures.kinds (line_simple is); request = sym (c.requested.ensures ∙ ap request_of entered) ∙ c.in-Some.is }

pub returns-clause-refused : goal.returns-clause-refused
returns-clause-refused c =
    let is = c.in_ok-line.ensures in
    let entered = (c.in_ok-matches.ensures.matches (both _ _ (line_simple is)).0).1 in
    line_lacks is (c.in_ok-matches.ensures.kinds (line_simple is)) (sym (c.requested.ensures ∙ ap request_of entered) ∙ c.in-None.is) c.in_ok-form_is_missing-in-None.ensures
