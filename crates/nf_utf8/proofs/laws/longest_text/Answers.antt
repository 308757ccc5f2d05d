use Rattle.nf_utf8.proofs.ReadsLemmas.{reads, reads_only}
use Rattle.nf_utf8.proofs.laws.longest_text.Goals as goal

pub returns : goal.returns
returns c = record { reads = reads; only = reads_only }
