use Rattle.nf_filter.proofs.filter.Filter.new.Goals as goal

pub returns-clause-stands : goal.returns-clause-stands
returns-clause-stands g c = c.new-2.ensures.stands c.args.form _ (c.new.ensures.taken _)
