use Rattle.nf_normalized.proofs.Common.{[], ◌∙◌, refl, arith, append-nil, state_of, Holds}
use Rattle.nf_filter.specs.Laws.Settled.{settled_utf8-none}
use Rattle.nf_normalized.proofs.CheckerLemmas.{alike}
use Rattle.nf_normalized.proofs.BytesLemmas.{Known}
use Rattle.nf_normalized.proofs.checker.FormChecker.new.Goals as goal
use Rattle.nf_normalized.proofs.checker.FormChecker.new.Goals.{After-new}

-- no byte was taken
holds : (c : After-new) → Holds c.args.assigned c.args.form (state_of c.policy-filter.result) c.new.result.items []
holds c = record {
  filter = c.policy-filter.ensures.stands _ c.args.form [] c.quickest.ensures.stands;
  split = grind (arith, settled_utf8-none, append-nil);
}

pub invariant_of-result : goal.invariant_of-result
invariant_of-result c = record {
  holds = λ _ _. ∣ record { assigned = c.args.assigned; form = c.args.form; bytes = []; holds = holds (goal.at.invariant_of-result c).After-new } ∣₁;
}

pub returns-clause-stands : goal.returns-clause-stands
returns-clause-stands c =
    let base_is = c.policy-filter.ensures.base ∙ c.quickest.ensures.base in
    let stands = holds (goal.at.returns-clause-stands c).After-new in
    let known : Known = grind (arith, c.split.ensures, c.read_back.ensures, c.pieces.ensures, c.each_form_changes_a_text_once.ensures) in
    let decides = alike known c.args.assigned c.args.form [] c.args.base c.new.result.items stands.split in
    record { none = refl; base_is = base_is; holds = stands; undecided = grind (arith, decides, base_is, stands.filter.no_fault) }
