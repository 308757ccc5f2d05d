use Rattle.nf_utf8.proofs.Common.{◌≡◌, length, ap, ◌∙◌, arith}
use Rattle.nf_utf8.proofs.ReadingLemmas.{length-encodes-text_of}
use Rattle.nf_utf8.proofs.StandingLemmas.{held_len, ending_of-standing, stands_alone}
use Rattle.nf_utf8.proofs.decoder.Decoder.carried.Goals as goal

counted : (c : goal.After-len) → c.len.result ≡ length c.args.self.now
counted c = c.len.ensures.count ∙ ap length c.self.view_is

pub returns-clause-after : goal.returns-clause-after
returns-clause-after c bytes s = omega (arith, counted c, length-encodes-text_of bytes, held_len s)

pub returns-clause-ending : goal.returns-clause-ending
returns-clause-ending c bytes s = rw (counted c) (ending_of-standing s)

pub returns-clause-alone : goal.returns-clause-alone
returns-clause-alone c = rw c.self.view_is at (stands_alone _ c.self.invariant)
