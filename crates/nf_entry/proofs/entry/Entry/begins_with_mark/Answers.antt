use Rattle.std.proofs.Common.{arith}
use Rattle.std.proofs.lemmas.Bool.Decides.{nat_tests}
use Rattle.nf_entry.proofs.Bits.{tells}
use Rattle.nf_entry.proofs.entry.Entry.begins_with_mark.Goals as goal

pub returns : goal.returns
returns c = λ x is. let mark = (tells _ x is).mark in grind (arith, nat_tests)
