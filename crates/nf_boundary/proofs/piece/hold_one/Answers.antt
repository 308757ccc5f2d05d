use Rattle.nf_boundary.proofs.Common.{rules}
use Rattle.nf_boundary.proofs.BecomesLemmas.{becomes_marked}
use Rattle.nf_boundary.proofs.piece.hold_one.Goals as goal

pub returns-clause-becomes : goal.returns-clause-becomes
returns-clause-becomes c = search (rules, becomes_marked)
