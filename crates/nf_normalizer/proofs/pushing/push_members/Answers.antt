use Rattle.nf_normalizer.proofs.Common.{arith}
use Rattle.nf_normalizer.proofs.PushingLemmas.{run_after-lt}
use Rattle.nf_normalizer.proofs.pushing.push_members.Goals as goal

pub push-requires-clause-mark : goal.push-requires-clause-mark
push-requires-clause-mark g c = λ mark.
    omega (arith, run_after-lt (g.R.Rows.properties c.args.rows.now) _ c.args.row.now _ _ c.requires.lead c.requires.few c.loop-c-test.true c.c-item.is mark, c.loop-c.invariant.run)
