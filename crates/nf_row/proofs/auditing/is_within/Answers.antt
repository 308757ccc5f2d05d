use Rattle.std.proofs.Common.{arith, ap, length, refl}
use Rattle.nf_forms.specs.Laws.Starters.{length-order}
use Rattle.nf_row.proofs.auditing.is_within.Goals as goal

pub returns-in-None : goal.returns-in-None
returns-in-None g c =
    let many = c.in-None.ensures.none refl in
    (λ e. cc, λ same. absurd (omega (arith, many, ap length same, ap length c.as_slice-whole.ensures.value, ap length c.ordered-whole.ensures, length-order (g.R.Rows.properties c.args.rows.now))))
