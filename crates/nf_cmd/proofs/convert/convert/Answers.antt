use Rattle.nf_cmd.proofs.Common.{◌≡◌, ◌∙◌, [], rules}
use Rattle.nf_filter.specs.Filter.{base_of, state_of}
use Rattle.nf_filter.specs.Policy.{as_is}
use Rattle.nf_cmd.proofs.convert.convert.Goals as goal

pub returns : goal.returns
returns g c =
    let base : base_of (state_of c.policy-filter.result) ≡ 0 = c.policy-filter.ensures.base ∙ c.quickest.ensures.base in
    let driven = rw base at (c.drive_buffered-answer.ensures.drives c.args.policy c.args.form [] (c.policy-filter.ensures.stands as_is c.args.form [] c.quickest.ensures.stands)) in
    record {
      answer = _;
      given = _;
      runs = record { source = _; rest = _; old = _; new = _; driven = driven; end = c.drive_buffered-answer.ensures.end; input_is = search rules; output_is = search rules; unfailed = search rules };
      flushed = c.ended.ensures.flushed;
      found_is = c.ended.ensures.found;
    }
