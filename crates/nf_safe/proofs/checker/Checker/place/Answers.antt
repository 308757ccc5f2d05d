use Rattle.nf_safe.proofs.Common.{sym, ◌∙◌, rules, place_from-none, place_from-in_format, stream_safe-in_format, in_format-unchanged}
use Rattle.nf_safe.proofs.checker.Checker.place.Goals as goal

-- It stands so that a wrong body is refused at once: without it the prover would run once more, to offer an answer.
pub returns-clause-place : goal.returns-clause-place
returns-clause-place c = search rules

pub returns-clause-unchanged : goal.returns-clause-unchanged
returns-clause-unchanged c = λ base p x stands sound. (
  λ none. stream_safe-in_format p x (place_from-none p base x (sym stands.place ∙ sym (returns-clause-place c) ∙ none)),
  λ same. returns-clause-place c ∙ stands.place ∙ place_from-in_format p base x (in_format-unchanged p x sound same),
)
