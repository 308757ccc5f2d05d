use Rattle.nf_filter.proofs.Common.{◌∙◌, ⊎_elim, settled_utf8}
use Rattle.nf_filter.proofs.WritesLemmas.{Written-none}
use Rattle.nf_filter.proofs.FilterLemmas.{failed_if, write_or_kept}
use Rattle.nf_filter.proofs.FedLemmas.{reads-more, rest-is}
use Rattle.nf_filter.proofs.reading.Reading.feed.Goals as goal

pub returns-clause-feeds : goal.returns-clause-feeds
returns-clause-feeds g c = λ f base bytes read no_fault.
    let written = Written-none (settled_utf8 c.args.policy f (g.R.Rows.properties c.args.rows.now) bytes) c.new-block.ensures.empty in
    let rest = rest-is _ _ _ _ _ _ _ _ _ c.read_rest-read.result (c.read_rest-read.ensures.reads f base _ _ (reads-more read c.args.piece.now written)) in
    let closed = c.close.ensures.gives _ _ rest.0 in (
      record {
        write = failed_if c.close.result closed.broken (λ not. (closed.given not).0);
        broken_off = closed.broken;
        written = λ not. (closed.given not).0;
        answer = λ not. rw (closed.given not).1 (rest.1 (λ e. not ((closed.given not).1 ∙ e)));
      },
      ⊎_elim (λ e. rw e tt) (λ not. rw (closed.given not).1 rest.2) (write_or_kept c.close.result),
    )
