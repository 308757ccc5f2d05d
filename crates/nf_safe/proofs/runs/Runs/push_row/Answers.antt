use Rattle.nf_safe.proofs.Common.{◌==◌, [], ◌∷◌, ◌++◌, take, sym, ap, arith, append_assoc}
use Rattle.std.proofs.lemmas.List.{take_all, take_more}
use Rattle.nf_safe.proofs.runs.Runs.push_row.Goals as goal

pub loop-c-preserved : goal.loop-c-preserved
loop-c-preserved g c =
    let row = c.args.row.now in
    let i = c.loop-c.c-index in
    let item = c.c-item.result in
    record {
      few = omega arith;
      runs = λ w before.
          rw (take_more row i item c.loop-c-test.true, ← c.c-item.is, ← append_assoc w (take i row) (item ∷ []))
          (c.push.ensures.runs _ (w ++ take i row) item (ap (λ k. k == 0) (sym c.class.ensures)) (c.loop-c.invariant.runs w before));
    }

pub returns-clause-runs : goal.returns-clause-runs
returns-clause-runs g c = λ w before. rw (take_all c.loop-c.c-index c.args.row.now (omega arith)) at (c.loop-c.invariant.runs w before)
