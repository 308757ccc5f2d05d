use Rattle.nf_utf8.proofs.ReadingLemmas.{text_of-split, text_of-IsText, length-encodes-text_of}
use Rattle.nf_utf8.proofs.laws.split.Goals as goal

pub returns : goal.returns
returns c = record { split = text_of-split; scalars = text_of-IsText; len = length-encodes-text_of }
