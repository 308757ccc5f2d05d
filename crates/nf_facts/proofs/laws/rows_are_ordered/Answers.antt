use Rattle.nf_facts.proofs.Common.{KitNfd, KitNfkd, ucd}
use Rattle.nf_facts.proofs.Mapped.{CanonicalOrdered, CompatOrdered}
use Rattle.nf_facts.proofs.Rows.{ordered}
use Rattle.nf_facts.proofs.laws.rows_are_ordered.Goals as goal

pub returns : goal.returns
unfolding ucd
returns c = record { canonical = λ x. ordered KitNfd x (λ mapped. mapped CanonicalOrdered); compat = λ x. ordered KitNfkd x (λ mapped. mapped CompatOrdered) }
