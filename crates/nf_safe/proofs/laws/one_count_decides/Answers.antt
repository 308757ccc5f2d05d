use Rattle.nf_safe.proofs.Common.{sym, ap, ◌∙◌, sound-stream_safe, passes, trail-stream_safe, is_in_format-stream_safe}
use Rattle.nf_safe.proofs.laws.one_count_decides.Goals as goal

pub returns-clause-sound : goal.returns-clause-sound
returns-clause-sound c = λ p x joiner_sound sound. sound-stream_safe p joiner_sound x sound

pub returns-clause-count : goal.returns-clause-count
returns-clause-count c = λ p x count sound stands. stands ∙ sym (trail-stream_safe p x sound)

pub returns-clause-answer : goal.returns-clause-answer
returns-clause-answer c =
    λ p x count sound stands next. ap (λ n. passes p n (p.compat next)) (stands ∙ sym (trail-stream_safe p x sound))

pub returns-clause-format : goal.returns-clause-format
returns-clause-format c = λ p x sound. is_in_format-stream_safe p x sound
