-- At `returns-clause-drives` an edit is refused: without an answer the prover would run twice there.
use Rattle.nf_filter.proofs.driving.drive.Goals as goal

pub returns-clause-drives : goal.returns-clause-drives
returns-clause-drives g c = c.drive_buffered.ensures.drives
