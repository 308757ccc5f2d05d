use Rattle.nf_vectors.proofs.Common.{◌≡◌, ◌+◌, true, false, refl, ap, arith, add-zero, rows_of, is_listed, is_unchanged, below, sweep_of}
use Rattle.nf_vectors.specs.declared.sweep.Sweep.{Sweep}
use Rattle.nf_vectors.proofs.ReportLemmas.{or_none}
use Rattle.nf_vectors.proofs.SweepLemmas.{scalar_in, scalar_out, sweep-more, sweep-few}
use Rattle.nf_vectors.proofs.suite.Suite.sweep.Goals as goal

pub loop-code-init : goal.loop-code-init
unfolding below
loop-code-init g c = refl

pub loop-code-preserved-in_default-from_u32 : goal.loop-code-preserved-in_default-from_u32
loop-code-preserved-in_default-from_u32 g c = simp (sweep-more, scalar_out _ c.in_default-from_u32.ensures.cases, add-zero, or_none) c.loop-code.invariant

pub loop-code-preserved-then-is_listed : goal.loop-code-preserved-then-is_listed
loop-code-preserved-then-is_listed g c =
    let listed : is_listed (rows_of c.args.self.now) c.loop-code.code ≡ true = grind (arith, c.in-Ok.ensures.listed c.loop-code.code) in
    simp (sweep-more, scalar_in _ c.in-Some.ensures.cases, listed, add-zero, or_none) c.loop-code.invariant

pub loop-code-preserved-then-is_unchanged : goal.loop-code-preserved-then-is_unchanged
loop-code-preserved-then-is_unchanged g c =
    let listed : is_listed (rows_of c.args.self.now) c.loop-code.code ≡ false = grind (arith, c.in-Ok.ensures.listed c.loop-code.code) in
    let same : is_unchanged (g.R.Rows.properties c.args.rows.now) c.loop-code.code ≡ true = cc c.in-Some.ensures.value.1 in
    simp (sweep-more, scalar_in _ c.in-Some.ensures.cases, listed, same, add-zero, or_none) (ap (λ (s : Sweep). record s { unlisted = s.unlisted + 1 }) c.loop-code.invariant)

pub loop-code-preserved : goal.loop-code-preserved
loop-code-preserved g c =
    let listed : is_listed (rows_of c.args.self.now) c.loop-code.code ≡ false = grind (arith, c.in-Ok.ensures.listed c.loop-code.code) in
    let same : is_unchanged (g.R.Rows.properties c.args.rows.now) c.loop-code.code ≡ false = cc c.in-Some.ensures.value.1 in
    simp (sweep-more, scalar_in _ c.in-Some.ensures.cases, listed, same) (cc c.in-Some.ensures.value.1)

pub overflow_add-sweep : goal.overflow_add-sweep
overflow_add-sweep g c = grind (arith, sweep-few (g.R.Rows.properties c.args.rows.now) (rows_of c.args.self.now) c.loop-code.code)

pub overflow_add-sweep-in-loop-code : goal.overflow_add-sweep-in-loop-code
overflow_add-sweep-in-loop-code g c = grind (arith, sweep-few (g.R.Rows.properties c.args.rows.now) (rows_of c.args.self.now) c.loop-code.code)

pub returns : goal.returns
unfolding sweep_of
returns g c = grind arith
