use Rattle.std.proofs.Common.{[], refl}
use Rattle.std.proofs.lemmas.Str.{chars-nil, IsUtf8-nil}
use Rattle.nf_forms.specs.Laws.SpanSteps.{span_none}
use Rattle.nf_forms.specs.Ucd.{ucd}
use Rattle.nf_span.proofs.scan.Scan.new.Goals as goal

pub returns-clause-reaches : goal.returns-clause-reaches
returns-clause-reaches c = λ f. record {
  front = [];
  split = refl;
  front_utf8 = IsUtf8-nil;
  rest_utf8 = c.utf8.text;
  span = rw chars-nil (span_none ucd f);
}
