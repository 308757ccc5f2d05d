use Rattle.nf_cmd.proofs.Common.{rules}
use Rattle.nf_cmd.proofs.convert.convert_lines.Goals as goal

pub returns : goal.returns
returns g c = record {
  answer = _;
  given = _;
  runs = record { source = _; rest = _; old = _; new = _; driven = c.drive_lines-answer.ensures.drives; end = c.drive_lines-answer.ensures.end; input_is = search rules; output_is = search rules; unfailed = search rules };
  flushed = c.ended.ensures.flushed;
  found_is = c.ended.ensures.found;
}
