use Rattle.nf_facts.proofs.Ranges.{IsPlain-ascii}
use Rattle.nf_facts.proofs.laws.ascii_is_plain.Goals as goal

pub returns : goal.returns
returns c = IsPlain-ascii
