use Rattle.nf_boundary.proofs.Common.{rules, ◌∙◌, eq-eqb, ucd}
use Rattle.nf_boundary.proofs.LetterLemmas.{class_of}
use Rattle.nf_boundary.proofs.StarterLemmas.{joined-none}
use Rattle.nf_boundary.proofs.piece.joined_to.Goals as goal

pub returns-else-text-eq1 : goal.returns-else-text-eq1
returns-else-text-eq1 c = let starts = eq-eqb _ 0 (class_of c.args.c ∙ c.requires) in search (rules, joined-none ucd c.args.text.now c.args.c starts)
