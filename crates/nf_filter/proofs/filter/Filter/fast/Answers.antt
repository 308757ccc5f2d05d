use Rattle.nf_filter.proofs.filter.Filter.fast.Goals as goal

pub returns-clause-stands : goal.returns-clause-stands
returns-clause-stands g c = c.new.ensures.stands c.args.form _ (rw c.rows.ensures.rows c.fast.ensures.taken)
