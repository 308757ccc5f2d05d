use Rattle.std.proofs.Common.{[], refl, arith}
use Rattle.nf_forms.specs.Ucd.{ucd}
use Rattle.nf_counts.proofs.scan.Scan.new.Goals as goal

pub returns-clause-reaches : goal.returns-clause-reaches
returns-clause-reaches c = λ room. record {
  utf8 = c.utf8.text;
  front = [];
  begins = record { rest = c.args.text.now; split = refl; rest_utf8 = c.utf8.text; is_long = refl };
  sound = refl;
  unassigned = c.new.ensures.unassigned;
  counts = c.new.ensures.counts ucd;
  few = omega arith;
  less = omega arith;
  leads = omega arith;
}
