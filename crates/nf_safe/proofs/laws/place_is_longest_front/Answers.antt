use Rattle.nf_safe.proofs.Common.{ap, option_map, is_in_format, is_in_format-none, is_in_format-take, place_at, place-in_format, place_from-none}
use Rattle.nf_safe.specs.Laws.LongestFront.{longest_front_is}
use Rattle.nf_safe.proofs.laws.place_is_longest_front.Goals as goal

pub returns-clause-longest : goal.returns-clause-longest
returns-clause-longest c = λ p x. longest_front_is (is_in_format p) x (is_in_format-none p)

pub returns-clause-fronts : goal.returns-clause-fronts
returns-clause-fronts c = is_in_format-take

pub returns-clause-none : goal.returns-clause-none
returns-clause-none c = λ p x. (λ none. place_from-none p 0 x (ap (option_map (place_at 0 x)) none), place-in_format p x)
