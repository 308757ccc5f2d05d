use Rattle.nf_normalizer.proofs.normalizer.Normalizer.pending.Goals as goal

pub returns-clause-value : goal.returns-clause-value
returns-clause-value c = λ f p x taken. c.len.ensures.value f p _ taken.pending
