use Rattle.std.proofs.Common.{refl, subst, arith}
use borrow.Author.Count.{below_more}
use Rattle.nf_row.specs.Ascii.{IsUnchanged, IsFirstInNone}
use Rattle.nf_row.proofs.plain.reads_plain.Goals as goal

pub loop-code-preserved : goal.loop-code-preserved
loop-code-preserved g c =
    let p = g.R.Rows.properties c.args.rows.now in
    below_more (λ a. IsUnchanged p a × IsFirstInNone p a) _ c.loop-code.invariant
    (subst (λ a. IsUnchanged p a × IsFirstInNone p a) c.from-a.ensures (c.is_unchanged.ensures.0 c.if-not-is_unchanged.false, c.is_first_in_none.ensures.0 c.if-not-is_first_in_none.false))

pub returns : goal.returns
returns g c =
    let all = c.loop-code.invariant in
    (λ _. record { unchanged = λ a below. (all a (omega arith)).0; pairs = λ a below. (all a (omega arith)).1 }, λ _. refl)
