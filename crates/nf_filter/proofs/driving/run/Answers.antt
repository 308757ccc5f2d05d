use Rattle.nf_filter.proofs.Common.{[], ap, as_is}
use Rattle.nf_filter.proofs.AgainLemmas.{adds_what_stays}
use Rattle.nf_filter.proofs.driving.run.Goals as goal

pub returns-clause-again : goal.returns-clause-again
returns-clause-again g c = λ once.
    let again = rw (ap g.R.Rows.properties c.new.ensures.rows) at (c.drive.ensures.again as_is c.args.form []) in
    adds_what_stays _ _ _ _ as_is _ _ _ (again c.new.ensures.stands once)
