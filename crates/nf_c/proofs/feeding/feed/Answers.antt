use Rattle.std.proofs.Common.{eqb-true, arith, ◌≡◌, ◌+◌, ◌<◌, ◌^◌, length, ◌++◌, take, Some, refl, ap, ◌∙◌, append-nil}
use Rattle.nf_c.proofs.Common.{ucd, TooLong, Saved}
use Rattle.nf_filter.specs.Faults.{fault_in}
use Rattle.nf_c.proofs.FeedsLemmas.{StandsAfter-of}
use Rattle.nf_c.proofs.feeding.feed.Goals as goal

pub returns-then-is_too_long-clause-feeds : goal.returns-then-is_too_long-clause-feeds
returns-then-is_too_long-clause-feeds c = λ policy f bytes stands. record {
  fault = Some TooLong;
  seen = 0;
  written = 0;
  is = c.of-then-is_too_long.ensures;
  among = tt;
  seen_within = omega arith;
  written_within = omega arith;
  settles = simp append-nil;
  all = λ e. cc;
  full = λ e. cc;
  stands = λ _. rw (append-nil bytes) stands;
  told = λ e. cc;
  spent = λ e. cc;
  too_long = (λ _. omega (arith, c.is_too_long-2.ensures.long c.if-is_too_long.true), λ _. refl);
  nothing = λ _. (refl, refl, refl);
}

pub returns-clause-feeds : goal.returns-clause-feeds
returns-clause-feeds c = λ policy f bytes stands.
    let fed = c.feed_all-fed.result in
    let fed_all = c.feed_all-fed.ensures.feeds policy f bytes (record { can = stands.can; saved = c.in-Some.ensures.saved; stands = c.in-Some.ensures.stands policy f bytes stands }) in
    let front = fed_all.0 in
    let small : c.args.state.now.offset + length c.args.input.now < 2 ^ 64 = omega (arith, c.is_too_long-2.ensures.fits c.if-is_too_long.false) in
    let not_long : ¬ (fed.fault ≡ Some TooLong) = fed_all.1 (omega (arith, small, ap (λ (s : Saved). s.offset) c.in-Some.ensures.saved)) in record {
      fault = fed.fault;
      seen = fed.read;
      written = fed.written;
      is = c.within.ensures;
      among = front.among;
      seen_within = front.read;
      written_within = front.written;
      settles = front.settles;
      all = c.feed_all-fed.ensures.all;
      full = fed_all.2;
      stands = λ goes. StandsAfter-of (c.kept.ensures.stands policy f _ (front.stands goes));
      told = λ over. front.fault over ∙ ap (λ n. fault_in policy ucd n (bytes ++ take fed.read c.args.input.now)) (ap (λ (s : Saved). s.base) c.in-Some.ensures.saved);
      spent = λ over. (c.kept.ensures.spent (front.spent over), eqb-true _ 1 (ap (λ (s : Saved). s.spent) c.kept.ensures.saved ∙ front.spent over));
      too_long = (λ e. absurd (not_long e), λ long. absurd (omega (arith, small, long)));
      nothing = λ e. absurd (not_long e);
    }
