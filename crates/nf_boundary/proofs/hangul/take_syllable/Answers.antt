use Rattle.nf_boundary.proofs.Common.{rules}
use Rattle.nf_boundary.proofs.HangulLemmas.{closes_syllable}
use Rattle.nf_boundary.proofs.hangul.take_syllable.Goals as goal

pub returns-clause-closes : goal.returns-clause-closes
returns-clause-closes c = search (rules, closes_syllable)
