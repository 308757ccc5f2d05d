use Rattle.std.proofs.Common.{◌+◌, arith, rules}
use Rattle.nf_c.proofs.PassingLemmas.{ascii_front}
use Rattle.nf_c.proofs.passing.passing_len.Goals as goal

pub returns : goal.returns
returns c = λ some.
    let front = ascii_front _ _ _ c.if-ascii_prefix-seen.false c.ascii_prefix.ensures.ascii in record {
      holds = c.holds_ascii.ensures (search rules);
      within = omega (arith, c.min-len.ensures);
      room = omega (arith, c.min-len.ensures);
      ascii = front c.min-len.result (omega (arith, c.min-len.ensures, c.min-seen.ensures));
      more = λ less. (omega (arith, c.min-len.ensures, less), front (c.min-len.result + 1) (omega (arith, c.min-len.ensures, c.min-seen.ensures, less)));
    }
