use Rattle.nf_lines.proofs.Common.{◌≡◌, TooLong, ◌∙◌, [], length, take, Ok, Err, refl, ap, arith, rules, append-nil, length-take, length-append, ne_eqb, as_is, bytes_of}
use Rattle.std.proofs.KnownBytes.{Consumes-kept, Consumes-nil, Consumes-trans}
use Rattle.nf_lines.proofs.DrivesLemmas.{takes_none, drives-stopped, drives-failed, drives-finished, takes_offset}
use Rattle.nf_lines.proofs.driving.drive_lines.Goals as goal

pub loop-given-init : goal.loop-given-init
loop-given-init g c = record {
  room = refl;
  unspent = search rules;
  read = (record { whole = []; rest = [] }, Consumes-nil (g.I.Source.state c.args.source.now).coming, takes_none (c.policy-filter.ensures.stands as_is c.args.form [] c.quickest.ensures.stands) (c.policy-filter.ensures.base ∙ c.quickest.ensures.base));
  lenders = (refl, refl);
}

pub returns-in-Err-clause-drives : goal.returns-in-Err-clause-drives
returns-in-Err-clause-drives g c =
    let read = c.loop-given.invariant.read in
    drives-failed c.lines_stand_alone.ensures read.2 c.in-Err.ensures.failed.1 (Consumes-kept _ _ _ (bytes_of read.0) read.1 c.in-Err.ensures.kept)

pub returns-in-Err-feed_lines-clause-drives : goal.returns-in-Err-feed_lines-clause-drives
returns-in-Err-feed_lines-clause-drives g c =
    let read = c.loop-given.invariant.read in
    let piece = take c.in-Ok.given c.get.new.buf in
    let stopped = c.in-Err-feed_lines.ensures in
    let feeds = stopped.feeds _ read.0 read.2 in
    drives-stopped c.lines_stand_alone.ensures feeds.1 c.in-Err-feed_lines.fault stopped.not_read
    (c.in-Ok.ensures.end ∙ ne_eqb c.in-Ok.given 0 c.if-given-eq0.false)
    (rw feeds.2 (Consumes-trans _ _ _ (bytes_of read.0) piece read.1 c.in-Ok.ensures.given))
    (omega (arith, feeds.3, length-take c.in-Ok.given c.get.new.buf, c.get.auto.buf, c.loop-given.invariant.room))
    (λ e. let over = stopped.too_long e in omega (arith, over, takes_offset read.2, ap length feeds.2, length-append (bytes_of feeds.0) feeds.1, length-append (bytes_of read.0) piece))
    feeds.5

pub loop-given-preserved : goal.loop-given-preserved
loop-given-preserved g c =
    let read = c.loop-given.invariant.read in
    let feeds = c.in_default.ensures.feeds _ read.0 read.2 in
    record {
      room = c.get.auto.buf ∙ c.loop-given.invariant.room;
      unspent = search rules;
      read = (feeds.0, rw (rw (feeds.4 refl, append-nil) at feeds.2) (Consumes-trans _ _ _ (bytes_of read.0) (take c.in-Ok.given c.get.new.buf) read.1 c.in-Ok.ensures.given), feeds.5);
      lenders = (c.get.ensures.lender ∙ c.loop-given.invariant.lenders.0, c.feed_lines.ensures.lender ∙ c.loop-given.invariant.lenders.1);
    }

pub returns-in-Ok-finish-clause-drives : goal.returns-in-Ok-finish-clause-drives
returns-in-Ok-finish-clause-drives g c =
    let read = c.loop-given.invariant.read in
    drives-finished c.lines_stand_alone.ensures read.2 (g.I.Source.state c.loop-given.source) c.get.new.buf (Ok c.in-Ok-finish.field-0)
    c.if-given-eq0.true c.in-Ok.ensures.end (c.in-Ok.ensures.read_out c.if-given-eq0.true) read.1 c.in-Ok.ensures.given (λ e. cc) c.in-Ok-finish.ensures.finishes

pub returns-in-Err-finish-clause-drives : goal.returns-in-Err-finish-clause-drives
returns-in-Err-finish-clause-drives g c =
    let read = c.loop-given.invariant.read in
    drives-finished c.lines_stand_alone.ensures read.2 (g.I.Source.state c.loop-given.source) c.get.new.buf (Err c.in-Err-finish.fault)
    c.if-given-eq0.true c.in-Ok.ensures.end (c.in-Ok.ensures.read_out c.if-given-eq0.true) read.1 c.in-Ok.ensures.given (λ e. let long : c.in-Err-finish.fault ≡ TooLong = cc in rw long at c.in-Err-finish.ensures.faults) c.in-Err-finish.ensures.finishes
