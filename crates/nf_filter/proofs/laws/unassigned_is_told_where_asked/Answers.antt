use Rattle.std.proofs.Common.{sym, ◌∙◌}
use Rattle.nf_filter.proofs.SoundnessLemmas.{never_fed, not_in_all, never_driven, not_unassigned}
use Rattle.nf_filter.specs.declared.fault.Fault.TheVariants.{Unassigned}
use Rattle.nf_filter.proofs.laws.unassigned_is_told_where_asked.Goals as goal

pub returns-clause-feeding : goal.returns-clause-feeding
returns-clause-feeding c = λ policy f p base bytes piece old new result all feeds at.
    never_fed (Unassigned at) tt p base policy (not_unassigned p at policy.assigned all) feeds

pub returns-clause-finishing : goal.returns-clause-finishing
returns-clause-finishing c = λ policy f p base bytes old new result all finishes at.
    λ refused. not_in_all (Unassigned at) tt p base policy (not_unassigned p at policy.assigned all) bytes (sym (finishes.answer (λ e. cc)) ∙ refused)

pub returns-clause-driving : goal.returns-clause-driving
returns-clause-driving c = λ most policy f p base bytes source left old new result all drives at.
    never_driven (Unassigned at) tt p base policy (not_unassigned p at policy.assigned all) drives
