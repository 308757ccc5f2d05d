use Rattle.nf_filter.proofs.Common.{◌≡◌, [], length, refl, arith, length-append, nil_from_length}
use Rattle.nf_filter.proofs.FilterLemmas.{StandsAfter-offset}
use Rattle.nf_filter.proofs.FedLemmas.{StandsAfter-none}
use Rattle.nf_filter.proofs.filter.Filter.policy.Goals as goal

pub returns-clause-stands : goal.returns-clause-stands
returns-clause-stands g c = λ before f bytes stands.
    let read = stands.reading.read in
    let none : length bytes ≡ 0 = omega (arith, StandsAfter-offset stands, c.requires.fresh) in
    let front : stands.reading.before ≡ [] = nil_from_length stands.reading.before (omega (arith, none, read.left.few, read.left.len)) in
    let held = nil_from_length _ (omega (arith, none, read.left.len, length-append c.args.self.state.reading.decoder [])) in
    StandsAfter-none _ stands.unspent refl c.requires.fresh held (rw front at stands.reading.taken)
