use Rattle.nf_filter.proofs.SoundnessLemmas.{never_fed, never_driven, not_in_text, not_checked, not_a_fault, unmapped, not_surveyed}
use Rattle.nf_filter.proofs.Common.{as_is, fault_in}
use Rattle.nf_filter.specs.declared.fault.Fault.TheVariants.{Row}
use Rattle.nf_filter.proofs.laws.no_sound_character_is_refused.Goals as goal

pub returns-clause-feeding : goal.returns-clause-feeding
returns-clause-feeding c = λ policy f p base bytes piece old new result sound feeds at. never_fed (Row at) tt p base policy (not_in_text p sound base at policy.assigned) feeds

pub returns-clause-driving : goal.returns-clause-driving
returns-clause-driving c = λ most policy f p base bytes source left old new result sound drives at.
    never_driven (Row at) tt p base policy (not_in_text p sound base at policy.assigned) drives

pub returns-clause-checking : goal.returns-clause-checking
returns-clause-checking c = λ most p base source left result sound surveys at. not_surveyed (not_checked p sound base at) surveys

pub returns-clause-measuring : goal.returns-clause-measuring
returns-clause-measuring c = λ most p base source left result sound surveys at. not_surveyed (λ bytes e. not_a_fault p sound base at as_is bytes (unmapped (Row at) (fault_in as_is p base bytes) e)) surveys
