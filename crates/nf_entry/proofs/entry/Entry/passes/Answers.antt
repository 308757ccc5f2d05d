use Rattle.std.proofs.Common.{arith}
use Rattle.std.proofs.lemmas.Bool.Decides.{nat_tests}
use Rattle.nf_entry.proofs.Bits.{passes_is}
use Rattle.nf_entry.proofs.entry.Entry.passes.Goals as goal

pub returns-then-is_yes : goal.returns-then-is_yes
returns-then-is_yes c = λ x is.
    let class = c.class.ensures x is in
    let begins = c.begins_with_mark.ensures x is in
    let told = passes_is c.args.form x in
    let yes = c.if-is_yes.true in
    grind (arith, nat_tests)
