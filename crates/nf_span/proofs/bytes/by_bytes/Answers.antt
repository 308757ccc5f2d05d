use borrow.Author.Count.{below_more}
use Rattle.std.proofs.Common.{◌≡◌, false, sym, ◌∙◌, arith}
use Rattle.nf_span.specs.Closer.{look_at}
use Rattle.nf_span.proofs.LookLemmas.{told_by_lead, lead_begins}
use Rattle.nf_span.proofs.bytes.by_bytes.Goals as goal

pub loop-at-preserved : goal.loop-at-preserved
loop-at-preserved c = record {
  within = omega arith;
  plain =
      below_more (λ k. look_at c.args.form c.args.bytes.now k ≡ false) c.loop-at.at c.loop-at.invariant.plain
      (told_by_lead c.args.form c.args.bytes.now c.loop-at.at (sym c.wants_look.ensures ∙ c.if-not-wants_look.true));
}

pub returns-else-not-wants_look : goal.returns-else-not-wants_look
returns-else-not-wants_look c = record { front = c.loop-at.invariant; begins = λ inside. lead_begins c.args.form _ (sym c.wants_look.ensures ∙ c.if-not-wants_look.false) }
