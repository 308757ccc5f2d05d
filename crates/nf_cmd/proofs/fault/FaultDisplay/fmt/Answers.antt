use Rattle.nf_cmd.proofs.fault.FaultDisplay.fmt.Goals as goal

pub returns-in-Cut-clause-writes : goal.returns-in-Cut-clause-writes
returns-in-Cut-clause-writes g c = rw c.in-Cut.is c.write-in-Cut.ensures.writes
