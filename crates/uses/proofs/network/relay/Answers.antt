use Rattle.std.proofs.Common.{◌≡◌, ℕ, ◌<◌, [], ◌++◌, length, take, Err, inr, refl, ap, ◌∙◌, subst, arith, rules, append-nil, length-take}
use Rattle.std.specs.Io.KnownBytes.{Consumes, Keeps}
use Rattle.std.proofs.KnownBytes.{Consumes-kept, Consumes-nil, Consumes-trans}
use Rattle.nf_forms.specs.Ucd.{ucd}
use Rattle.nf_forms.specs.declared.form.Form.TheVariants.{Nfc}
use Rattle.nf_filter.specs.declared.fault.Fault.{Fault}
use Rattle.nf_filter.specs.declared.fault.Fault.TheVariants.{Read}
use Rattle.nf_filter.specs.Faults.{IsOfFeeding}
use Rattle.nf_filter.specs.Feeds.{Feeds}
use Rattle.nf_filter.specs.Filter.{state_of}
use Rattle.nf_filter.specs.Finishes.{Finishes}
use Rattle.nf_filter.specs.Policy.{as_is}
use Rattle.nf_filter.proofs.FeedingLemmas.{fed_by}
use Rattle.nf_filter.proofs.WritesLemmas.{Puts-join}
use Rattle.nf_text.proofs.WholeLemmas.{whole}
use Rattle.uses.proofs.RelayLemmas.{relays_none, relays_failed, relays_ended, relays_refused, ok_end}
use Rattle.uses.proofs.network.relay.Goals as goal

pub loop-come-init : goal.loop-come-init
loop-come-init g c = record {
  room = refl;
  base = c.new-filter.ensures.base;
  relayed = ([], Consumes-nil (g.C.Read.remaining c.args.connection.now), c.new-filter.ensures.stands, relays_none Nfc ucd (g.S.Sink.state c.args.sink.now));
  lender = refl;
}

pub loop-come-preserved : goal.loop-come-preserved
loop-come-preserved g c =
    let so_far = c.loop-come.invariant in
    let come = so_far.relayed.0 in
    let piece = take c.in-Ok.come c.read.new.buf in record {
      room = c.read.auto.buf ∙ so_far.room;
      base = c.in_default-feed.ensures.base ∙ so_far.base;
      relayed = (
        come ++ piece,
        Consumes-trans _ _ _ come piece so_far.relayed.1 c.in-Ok.ensures.bytes.0,
        c.in_default-feed.ensures.stands as_is Nfc come so_far.relayed.2,
        Puts-join so_far.relayed.3 ((c.in_default-feed.ensures.feeds as_is Nfc come so_far.relayed.2 (λ e. cc)).written (λ e. cc)),
      );
      lender = c.feed.ensures.lender ∙ so_far.lender;
    }

not_read : (fault : Fault) → IsOfFeeding fault → ¬ (fed_by fault ≡ Err Read)
not_read fault may e = let same : fault ≡ Read = cc in rw same at may

pub returns-then-come-eq0-clause-relays : goal.returns-then-come-eq0-clause-relays
returns-then-come-eq0-clause-relays g c =
    let so_far = c.loop-come.invariant in
    let come = so_far.relayed.0 in
    let left = g.C.Read.remaining c.read.new.self in
    let nothing = subst (λ n. Consumes (g.C.Read.remaining c.loop-come.connection) left (take n c.read.new.buf)) c.if-come-eq0.true c.in-Ok.ensures.bytes.0 in
    let read = subst (λ l. Consumes (g.C.Read.remaining c.args.connection.now) left l) (append-nil come) (Consumes-trans _ _ _ come [] so_far.relayed.1 nothing) in
    let ended = c.in-Ok.ensures.bytes.1 c.if-come-eq0.true (let room : 0 < length c.read.new.buf = omega (arith, c.read.auto.buf, so_far.room) in room) in
    relays_ended Nfc ucd (g.C.Read.remaining c.args.connection.now) left (g.S.Sink.state c.args.sink.now) (g.S.Sink.state c.loop-come.sink) (state_of c.loop-come.filter) come so_far.base so_far.relayed.2 so_far.relayed.3
    (g.S.Sink.state c.finish.new.sink) c.finish.result read ended (λ e. rw e at c.finish.ensures.faults) (λ e. rw e at c.finish.ensures.faults)
    (λ bytes stands. subst (λ (n : ℕ). Finishes as_is Nfc ucd n bytes (g.S.Sink.state c.loop-come.sink) (g.S.Sink.state c.finish.new.sink) c.finish.result) so_far.base (c.finish.ensures.finishes as_is Nfc bytes stands)) (ok_end c.finish.result)

pub returns-then-come-eq0-clause-whole : goal.returns-then-come-eq0-clause-whole
returns-then-come-eq0-clause-whole g c =
    let relays = returns-then-come-eq0-clause-relays g c in
    rw relays.input_is.0 at (whole Nfc ucd 1500 relays.source relays.rest _ _ _ c.longest_text.ensures.reads relays.end relays.driven)

pub returns-in_default-clause-relays : goal.returns-in_default-clause-relays
returns-in_default-clause-relays g c =
    let so_far = c.loop-come.invariant in
    let left = g.C.Read.remaining c.read.new.self in
    let kept : Keeps (g.C.Read.remaining c.loop-come.connection) left = search rules in
    relays_failed Nfc ucd (g.C.Read.remaining c.args.connection.now) left (g.S.Sink.state c.args.sink.now) (g.S.Sink.state c.loop-come.sink) (state_of c.loop-come.filter) so_far.relayed.0 so_far.base so_far.relayed.2 so_far.relayed.3
    (Consumes-kept _ _ _ so_far.relayed.0 so_far.relayed.1 kept)

pub returns-in-Err-clause-relays : goal.returns-in-Err-clause-relays
returns-in-Err-clause-relays g c =
    let so_far = c.loop-come.invariant in
    let come = so_far.relayed.0 in
    let piece = take c.in-Ok.come c.read.new.buf in
    relays_refused Nfc ucd (g.C.Read.remaining c.args.connection.now) (g.C.Read.remaining c.read.new.self) (g.S.Sink.state c.args.sink.now) (g.S.Sink.state c.loop-come.sink) (state_of c.loop-come.filter) come so_far.base so_far.relayed.2 so_far.relayed.3
    piece (g.S.Sink.state c.feed.new.sink) c.in-Err.fault
    (Consumes-trans _ _ _ come piece so_far.relayed.1 c.in-Ok.ensures.bytes.0)
    (omega (arith, length-take c.in-Ok.come c.read.new.buf, c.read.auto.buf, so_far.room))
    (not_read c.in-Err.fault c.in-Err.ensures.faults) c.in-Err.ensures.too_long
    (λ e. ap g.S.Sink.state (c.in-Err.ensures.kept (inr e)).1)
    (λ short. subst (λ (n : ℕ). Feeds as_is Nfc ucd n come piece (g.S.Sink.state c.loop-come.sink) (g.S.Sink.state c.feed.new.sink) (Err c.in-Err.fault)) so_far.base (c.in-Err.ensures.feeds as_is Nfc come so_far.relayed.2 short))
