use Rattle.nf_safe.proofs.Common.{[], refl, sym, ◌∙◌, longest-order}
use Rattle.nf_safe.proofs.MeasurerLemmas.{same_values}
use Rattle.nf_safe.proofs.measurer.Measurer.new.Goals as goal

pub returns : goal.returns
returns c = λ p.
    let runs = c.new-2.ensures.runs p in
    record {
      sound = refl;
      values = same_values refl refl runs.nonstarters (runs.longest ∙ sym (longest-order p [])) refl refl;
      count = c.new.ensures.count;
      runs = runs;
    }
