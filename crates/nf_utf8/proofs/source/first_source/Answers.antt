use Rattle.nf_utf8.proofs.Common.{◌≡◌, ◌<◌, true, [], length, sym, ap, ◌∙◌, arith, length-take-le, width_is, encode_utf8, replacement}
use Rattle.std.proofs.Math.Nat.{zero-add}
use Rattle.nf_utf8.proofs.LeftLemmas.{subpart-decoded}
use Rattle.nf_utf8.proofs.NextLemmas.{one-left, bad-left, bad-some}
use Rattle.nf_utf8.proofs.source.first_source.Goals as goal

pub returns-in-Char-clause-some : goal.returns-in-Char-clause-some
returns-in-Char-clause-some c =
    let front = c.in-Char.ensures in
    let size : length (encode_utf8 c.in-Char.c) ≡ c.in-Char.len = sym (ap length front.2) ∙ length-take-le c.in-Char.len c.args.bytes.now front.0 in
    let some : 0 < c.in-Char.len = omega (arith, width_is c.in-Char.c, size) in
    (some, some, front.0, (c.in-Char.c, sym size, rw size at (one-left [] c.args.bytes.now c.in-Char.c c.in-Char.len front.1 front.2 true)))

pub returns-in-Bad-clause-some : goal.returns-in-Bad-clause-some
returns-in-Bad-clause-some c =
    let is = c.in-Bad.ensures in
    let some = bad-some [] c.args.bytes.now c.in-Bad.at c.in-Bad.back is c.subpart_len.result c.subpart_len.ensures in
    (omega (arith, c.len_utf8.ensures.lower_bound), omega (arith, some.0), some.1, (replacement, c.len_utf8.ensures.len, rw zero-add at (bad-left [] c.args.bytes.now c.in-Bad.at c.in-Bad.back is c.subpart_len.result c.subpart_len.ensures)))

pub returns-in-Begun-clause-none : goal.returns-in-Begun-clause-none
returns-in-Begun-clause-none c = λ _. subpart-decoded c.args.bytes.now c.in-Begun.ensures.0 true
