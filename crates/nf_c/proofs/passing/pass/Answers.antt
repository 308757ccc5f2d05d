use Rattle.std.proofs.Common.{Some, None, refl, arith}
use Rattle.nf_filter.specs.declared.fault.Fault.TheVariants.{Write}
use Rattle.nf_c.proofs.PassingLemmas.{pass-feeds}
use Rattle.nf_c.proofs.passing.pass.Goals as goal

pub returns-then-len-input-clause-feeds : goal.returns-then-len-input-clause-feeds
returns-then-len-input-clause-feeds c = λ policy f bytes stands.
    pass-feeds c.plain-plain.ensures c.requires.can stands c.requires.some c.requires.fits
    c.write_passing.ensures.state c.write_passing.ensures.output c.write_passing.ensures.length (Some Write) c.of.ensures refl tt (λ e. cc) (λ e. cc) (λ _. c.if-len-input.true)

pub returns-clause-feeds : goal.returns-clause-feeds
returns-clause-feeds c = λ policy f bytes stands.
    pass-feeds c.plain-plain.ensures c.requires.can stands c.requires.some c.requires.fits
    c.write_passing.ensures.state c.write_passing.ensures.output c.write_passing.ensures.length None c.of-2.ensures refl tt (λ e. cc) (λ _. omega (arith, c.requires.can.within, c.if-len-input.false)) (λ e. cc)
