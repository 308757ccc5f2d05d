use Rattle.nf_filter.proofs.Common.{[], ap, ◌∙◌, arith, as_is, rules}
use Rattle.nf_filter.proofs.FilterLemmas.{StandsAfter-offset}
use Rattle.nf_filter.proofs.WholeLemmas.{Converts-refused, Converts-finished, Converts-faults, Converts-sound}
use Rattle.nf_filter.proofs.AgainLemmas.{converts_once}
use Rattle.nf_filter.proofs.whole.convert.Goals as goal

pub returns-in-Err : goal.returns-in-Err
returns-in-Err g c =
    let filter = c.quickest-filter in
    let feeds = (rw (ap g.R.Rows.properties filter.ensures.rows) at (c.in-Err.ensures.feeds as_is c.args.form [])) filter.ensures.stands in
    let converts = Converts-refused (rw filter.ensures.base at (feeds (λ e. absurd (omega (arith, (c.in-Err.ensures.too_long.0 e).1, StandsAfter-offset filter.ensures.stands))))) in
    record { converts = converts; again = λ _. tt; faults = Converts-faults _ converts; sound = λ sound. Converts-sound sound converts; lender = search rules }

pub returns : goal.returns
returns g c =
    let filter = c.quickest-filter in
    let rows = ap g.R.Rows.properties filter.ensures.rows in
    let feeds = (rw rows at (c.in_default.ensures.feeds as_is c.args.form [])) filter.ensures.stands (λ e. cc) in
    let after = (rw rows at (c.in_default.ensures.stands as_is c.args.form [])) filter.ensures.stands in
    let finishes = (rw (ap g.R.Rows.properties c.in_default.ensures.rows ∙ rows) at (c.finish.ensures.finishes as_is c.args.form c.args.bytes.now)) after in
    let converts = Converts-finished (rw filter.ensures.base at feeds) (rw (c.in_default.ensures.base ∙ filter.ensures.base) at finishes) in
    record { converts = converts; again = λ once. converts_once c.what_was_finished_stays.ensures _ once converts; faults = Converts-faults _ converts; sound = λ sound. Converts-sound sound converts; lender = search rules }
