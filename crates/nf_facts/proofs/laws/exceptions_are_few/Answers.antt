use Rattle.nf_facts.proofs.Starters.{compat-lead}
use Rattle.nf_facts.proofs.Rows.{mark-ucd}
use Rattle.nf_facts.proofs.laws.exceptions_are_few.Goals as goal

pub returns : goal.returns
returns c = record { starter = compat-lead; mark = mark-ucd }
