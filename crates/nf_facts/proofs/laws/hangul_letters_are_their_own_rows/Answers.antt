use Rattle.nf_facts.proofs.Common.{KitNfkd}
use Rattle.unicode_normalization.proofs.DecomposeLemmas.{is_final-jamo}
use Rattle.nf_facts.proofs.Rows.{class-letter, own_row-final}
use Rattle.nf_facts.proofs.laws.hangul_letters_are_their_own_rows.Goals as goal

pub returns : goal.returns
returns c = record { starter = class-letter; own = λ x low high. own_row-final x (is_final-jamo KitNfkd x low high) }
