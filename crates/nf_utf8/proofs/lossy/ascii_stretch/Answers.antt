use Rattle.nf_utf8.proofs.Common.{List, ℕ, ◌+◌, ◌-◌, drop, sym, ◌∙◌, arith, nat_tests, length-take, take-add, take-take, IsUtf8-append, IsUtf8-encode}
use Rattle.nf_utf8.proofs.NextLemmas.{part_is}
use Rattle.nf_utf8.proofs.lossy.ascii_stretch.Goals as goal

pub stretch_after-requires-clause-utf8 : goal.stretch_after-requires-clause-utf8
stretch_after-requires-clause-utf8 c =
    let ascii : ℕ = c.args.ascii in
    let rest : List ℕ = drop ascii c.args.bytes.now in
    let front = c.in-Char.ensures in
    let letter = sym (take-take c.in-Char.len (ascii + 4 - ascii) rest (omega (arith, front.0, length-take (ascii + 4 - ascii) rest))) ∙ front.2 in
    rw (take-add ascii c.in-Char.len c.args.bytes.now, letter) (IsUtf8-append _ _ c.requires.utf8 (IsUtf8-encode c.in-Char.c front.1))

pub returns-in-Bad-clause-is : goal.returns-in-Bad-clause-is
returns-in-Bad-clause-is c =
    part_is c.args.bytes.now c.args.ascii _ c.in-Bad.at c.in-Bad.back c.max.result c.requires.utf8 (omega (arith, c.requires.few, c.requires.room)) c.in-Bad.ensures (grind (arith, nat_tests, c.in-Bad.ensures, c.max.ensures))
