use Rattle.std.proofs.Common.{◌++◌, ap, ◌∙◌, append_assoc}
use Rattle.nf_span.proofs.CutLemmas.{span_end}
use Rattle.nf_span.proofs.span.SpanText.split.Goals as goal

pub returns-clause-span : goal.returns-clause-span
returns-clause-span c = λ f whole here.
    let parts = c.split_last_starter-known.ensures.splits in
    let span = rw parts.characters at here.is_span in
    record {
      text = here.text ∙ ap (λ t. t ++ c.args.self.rest.now) parts.text ∙ append_assoc c.split_last_starter-known.result.0.now c.split_last_starter-known.result.1.now c.args.self.rest.now;
      class = here.class;
      count = here.count;
      span = span;
      sound = rw parts.characters at here.sound;
      end = span_end f c.exceptions_are_few.ensures.starter c.some_starters_count_as_marks.ensures.none _ _ _ parts _ _ span;
    }
