use Rattle.std.proofs.Common.{◌≡◌, ◌+◌, ◌-◌, ◌≤◌, length, take, drop, Some, None, refl, ap, arith, rules}
use Rattle.std.proofs.lemmas.List.{length-append, length-take, length-take-le, length-drop}
use Rattle.nf_c.proofs.Common.{Write, ends}
use Rattle.nf_filter.proofs.FilterLemmas.{StandsAfter-offset}
use Rattle.nf_c.proofs.FeedsLemmas.{FeedsFront-goes, FeedsFront-next, full_next}
use Rattle.nf_c.proofs.feeding.feed_all.Goals.{else-is_full-via-then-is_full+else-len-gt1, else-is_full-via-else-is_full}
use Rattle.nf_c.proofs.feeding.feed_all.Goals as goal

pub loop-read-preserved-then-len-gt1 : goal.loop-read-preserved-then-len-gt1
loop-read-preserved-then-len-gt1 c =
    let full : c.try_piece-fed.result.fault ≡ Some Write = search rules in
    let nothing = c.try_piece-fed.ensures.nothing full in record {
      read = search rules;
      written = search rules;
      feeds = λ policy f bytes stands.
          let so_far = c.loop-read.invariant.feeds policy f bytes stands in (
            FeedsFront-goes (ap ends full) (omega (arith, nothing.0)) (omega (arith, nothing.1))
                (FeedsFront-next c.len-len.result so_far.0 (omega (arith, c.len-len.ensures.within, c.loop-read-test.true)) (search rules) (c.try_piece-fed.ensures.feeds policy f _ so_far.1)),
            (c.try_piece-fed.ensures.full policy f _ so_far.1 full).0,
          );
    }

-- a piece is no longer than the input
pub returns-then-is_some-clause-feeds : goal.returns-then-is_some-clause-feeds
returns-then-is_some-clause-feeds c = λ policy f bytes stands.
    let so_far = c.loop-read.invariant.feeds policy f bytes stands in
    let fed = c.try_piece-fed.ensures.feeds policy f _ so_far.1 in
    let at = c.loop-read.read in
    let fits : at + c.len-len.result ≤ length c.args.input.now = omega (arith, c.len-len.ensures.within, c.loop-read-test.true) in (
      FeedsFront-next c.len-len.result so_far.0 fits (search rules) fed,
      λ small long. absurd (omega (
        arith,
        c.try_piece-fed.ensures.too_long long,
        StandsAfter-offset so_far.1.stands,
        StandsAfter-offset stands.stands,
        so_far.0.base,
        small,
        fits,
        length-append bytes (take at c.args.input.now),
        length-take-le at c.args.input.now c.loop-read.invariant.read,
        length-take (at + c.len-len.result - at) (drop at c.args.input.now),
        length-drop at c.args.input.now,
      )),
      λ is.
          let one : c.len-len.result ≡ 1 = elim c.else-is_full.branch [
            | else-is_full-via-then-is_full+else-len-gt1 w ↦ search rules
            | else-is_full-via-else-is_full w ↦ let told = c.is_full.ensures.1 is in let not = w.if-is_full.false in cc
          ] in
          full_next c.len-len.result so_far.0 fits (search rules) fed (c.try_piece-fed.ensures.full policy f _ so_far.1 is).1 one (c.try_piece-fed.ensures.nothing is).0,
    )

pub loop-read-preserved : goal.loop-read-preserved
loop-read-preserved c =
    let none : c.try_piece-fed.result.fault ≡ None = search rules in record {
      read = search rules;
      written = search rules;
      feeds = λ policy f bytes stands.
          let so_far = c.loop-read.invariant.feeds policy f bytes stands in
          let front = FeedsFront-goes (ap ends none) refl refl (FeedsFront-next c.len-len.result so_far.0 (omega (arith, c.len-len.ensures.within, c.loop-read-test.true)) (search rules) (c.try_piece-fed.ensures.feeds policy f _ so_far.1)) in
          (front, c.kept.ensures.stands policy f _ (front.stands refl));
    }

pub returns-clause-feeds : goal.returns-clause-feeds
returns-clause-feeds c = λ policy f bytes stands. ((c.loop-read.invariant.feeds policy f bytes stands).0, λ _ e. cc, λ e. cc)
