use Rattle.nf_filter.proofs.Common.{rules, rows_of, saved_of, IsRestorable}
use Rattle.nf_filter.proofs.SavedLemmas.{IsRestorable-stands}
use Rattle.nf_filter.proofs.filter.Filter.save.Goals as goal

pub returns-clause-restorable : goal.returns-clause-restorable
returns-clause-restorable g c = λ policy f bytes stands.
    let state = c.args.self.now.state in
    let p = g.R.Rows.properties (rows_of c.args.self.now) in
    let whole : IsRestorable p (saved_of state) = IsRestorable-stands stands c.held-len.ensures.part (rw c.count.ensures.value at c.count.ensures.bound) in
    search rules
