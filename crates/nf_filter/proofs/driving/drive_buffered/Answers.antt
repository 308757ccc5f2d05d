use Rattle.nf_filter.proofs.Common.{[], ◌++◌, refl, take, inr, ap, ◌∙◌, arith, rules, append-nil, eq-eqb, ne_eqb, length-take, Consumes-kept, Consumes-trans}
use Rattle.nf_filter.proofs.FilterLemmas.{err_is}
use Rattle.nf_filter.proofs.FeedingLemmas.{HasFed-none, HasFed-more, Drives-failed, Drives-finished, Drives-refused}
use Rattle.nf_filter.proofs.AgainLemmas.{drives_to_end, joins_pieces}
use Rattle.nf_filter.proofs.driving.drive_buffered.Goals as goal

pub loop-given-init : goal.loop-given-init
loop-given-init g c = record {
  room = refl;
  unspent = search rules;
  rows = refl;
  base = refl;
  fed = ([], search rules, λ policy f bytes stands. HasFed-none stands);
  lenders = (refl, refl);
}

pub returns-in-Err-clause-drives : goal.returns-in-Err-clause-drives
returns-in-Err-clause-drives g c = λ policy f bytes stands.
    let fed = c.loop-given.invariant.fed in
    Drives-failed _ _ _ _ _ _ _ _ _ (fed.2 policy f bytes stands) _ _ _ c.in-Err.ensures.failed.1 (Consumes-kept _ _ _ fed.0 fed.1 c.in-Err.ensures.kept)

pub returns-then-given-eq0-clause-drives : goal.returns-then-given-eq0-clause-drives
returns-then-given-eq0-clause-drives g c = λ policy f bytes stands.
    let fed = c.loop-given.invariant.fed in
    let so_far = fed.2 policy f bytes stands in
    let rows = ap g.R.Rows.properties c.loop-given.invariant.rows in
    let finishes = rw c.loop-given.invariant.base at ((rw rows at (c.finish.ensures.finishes policy f (bytes ++ fed.0))) so_far.stands) in
    Drives-finished _ _ _ _ _ _ _ _ _ so_far _ _ _ _ _ (c.in-Ok.ensures.end ∙ eq-eqb c.in-Ok.given 0 c.if-given-eq0.true)
    (rw (append-nil fed.0) at (Consumes-trans _ _ _ fed.0 [] fed.1 (rw c.if-given-eq0.true at c.in-Ok.ensures.given))) (c.in-Ok.ensures.read_out c.if-given-eq0.true)
    (λ e. rw e at c.finish.ensures.faults) (λ e. rw e at c.finish.ensures.faults) finishes

pub returns-then-given-eq0-clause-again : goal.returns-then-given-eq0-clause-again
returns-then-given-eq0-clause-again g c = λ policy f bytes stands once.
    drives_to_end c.finish.result (λ all tally _. c.what_was_finished_stays.ensures policy f _ _ all tally once) (c.in-Ok.ensures.end ∙ eq-eqb c.in-Ok.given 0 c.if-given-eq0.true)
    (returns-then-given-eq0-clause-drives g c policy f bytes stands)

pub returns-then-given-eq0-clause-joined : goal.returns-then-given-eq0-clause-joined
returns-then-given-eq0-clause-joined g c = λ policy f bytes stands.
    drives_to_end c.finish.result (λ all tally. joins_pieces _ _ all tally policy f) (c.in-Ok.ensures.end ∙ eq-eqb c.in-Ok.given 0 c.if-given-eq0.true)
    (returns-then-given-eq0-clause-drives g c policy f bytes stands)

pub returns-in-Err-feed-clause-drives : goal.returns-in-Err-feed-clause-drives
returns-in-Err-feed-clause-drives g c = λ policy f bytes stands.
    let fed = c.loop-given.invariant.fed in
    let so_far = fed.2 policy f bytes stands in
    let piece = take c.in-Ok.given c.get.new.buf in
    let feeds = rw c.loop-given.invariant.base at ((rw (ap g.R.Rows.properties c.loop-given.invariant.rows) at (c.in-Err-feed.ensures.feeds policy f (bytes ++ fed.0))) so_far.stands) in
    Drives-refused _ _ _ _ _ _ _ _ _ so_far _ _ _ (c.in-Ok.ensures.end ∙ ne_eqb c.in-Ok.given 0 c.if-given-eq0.false) _ _ _ (Consumes-trans _ _ _ fed.0 piece fed.1 c.in-Ok.ensures.given)
    (omega (arith, length-take c.in-Ok.given c.get.new.buf)) (λ e. rw (err_is e) at c.in-Err-feed.ensures.faults) c.in-Err-feed.ensures.too_long
    (λ e. ap g.S.Sink.state (c.in-Err-feed.ensures.kept (inr e)).1) feeds

pub loop-given-preserved : goal.loop-given-preserved
loop-given-preserved g c =
    let fed = c.loop-given.invariant.fed in
    let piece = take c.in-Ok.given c.get.new.buf in
    let rows = ap g.R.Rows.properties c.loop-given.invariant.rows in
    let base = c.in_default.ensures.base ∙ c.loop-given.invariant.base in
    record {
      room = c.get.auto.buf ∙ c.loop-given.invariant.room;
      unspent = search rules;
      rows = c.in_default.ensures.rows ∙ c.loop-given.invariant.rows;
      base = base;
      fed = (
        fed.0 ++ piece,
        Consumes-trans _ _ _ fed.0 piece fed.1 c.in-Ok.ensures.given,
        λ policy f bytes stands.
            let so_far = fed.2 policy f bytes stands in
            let feeds = rw c.loop-given.invariant.base at ((rw rows at (c.in_default.ensures.feeds policy f (bytes ++ fed.0))) so_far.stands (λ e. cc)) in
            HasFed-more _ _ _ _ _ _ _ _ _ so_far _ _ _ base ((rw rows at (c.in_default.ensures.stands policy f (bytes ++ fed.0))) so_far.stands) feeds,
      );
      lenders = (c.get.ensures.lender ∙ c.loop-given.invariant.lenders.0, c.feed.ensures.lender ∙ c.loop-given.invariant.lenders.1);
    }
