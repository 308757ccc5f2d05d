use Rattle.nf_normalized.proofs.checking.FormCheckerSurveyor.take.Goals as goal

pub returns-in-Ok-None-clause-goes_on : goal.returns-in-Ok-None-clause-goes_on
returns-in-Ok-None-clause-goes_on c = λ _.
    ((_, _, _, _, c.feed.ensures.stands _ _ _ _ c.requires.4 (cc)), c.feed.ensures.offset (cc))
