use Rattle.nf_safe.proofs.Common.{◌==◌, ap}
use Rattle.nf_safe.proofs.runs.Runs.with_char.Goals as goal

pub returns-in-Some-clause-runs : goal.returns-in-Some-clause-runs
returns-in-Some-clause-runs g c = λ w before.
    let own = c.in-Some.ensures _ c.args.c c.known_entry.ensures in
    rw own.row.compat (c.push.ensures.runs _ w c.args.c (ap (λ k. k == 0) own.class) before)
