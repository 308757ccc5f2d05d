use Rattle.std.proofs.Common.{Some, ap, sym, ◌∙◌}
use Rattle.nf_filter.proofs.WholeLemmas.{IsFormOf-from}
use Rattle.nf_filter.proofs.whole.converted.Goals as goal

pub returns-in-Ok-clause-form : goal.returns-in-Ok-clause-form
returns-in-Ok-clause-form g c =
    IsFormOf-from (ap (λ w. Some w.items) c.new-sink.ensures.writer ∙ ap Some c.new.ensures.items) (ap (λ w. Some w.items) (sym c.into_inner.ensures))
    (c.longest_text.ensures.reads c.args.bytes.now) c.in-Ok.ensures.converts
