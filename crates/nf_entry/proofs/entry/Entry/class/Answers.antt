use Rattle.nf_entry.proofs.Bits.{tells}
use Rattle.nf_entry.proofs.entry.Entry.class.Goals as goal

pub returns : goal.returns
returns c = λ x is. (tells _ x is).class
