use Rattle.std.proofs.Common.{arith}
use Rattle.nf_utf8.proofs.CountingLemmas.{lanes_count}
use Rattle.nf_utf8.proofs.counting.starts.Goals as goal

pub returns : goal.returns
returns c = lanes_count c.args.lanes 32 c.fits-lanes.0 (omega arith)
