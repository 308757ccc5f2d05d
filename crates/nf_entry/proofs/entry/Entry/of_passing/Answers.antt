use Rattle.nf_entry.proofs.Bits.{none_set}
use Rattle.nf_entry.proofs.entry.Entry.of_passing.Goals as goal

pub returns : goal.returns
returns c = none_set c.args._c c.requires
