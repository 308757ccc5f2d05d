use Rattle.std.proofs.Common.{◌≡◌, true, false, Some, Err, refl, sym, ap, ◌∙◌, rules}
use Rattle.nf_c.proofs.Common.{ucd, Write, Saved, ends}
use Rattle.nf_filter.proofs.SoundnessLemmas.{not_fed}
use Rattle.nf_c.proofs.FeedsLemmas.{not_other, of_staying, of_feeding, too_little, StandsAfter-of, FeedsFront-all, FeedsFront-none}
use Rattle.nf_c.proofs.feeding.try_piece.Goals as goal

pub returns-in_default-clause-feeds : goal.returns-in_default-clause-feeds
returns-in_default-clause-feeds c = λ policy f bytes stands.
    FeedsFront-all c.over-room.ensures.state (search rules) c.written.ensures.taken c.written.ensures.within (c.in_default.ensures.feeds policy f bytes stands.stands (λ e. cc)) (λ e. cc) c.feed.ensures.base
    (λ _. c.in_default.ensures.stands policy f bytes stands.stands) (λ e. cc) tt

pub returns-then-ends-clause-feeds : goal.returns-then-ends-clause-feeds
returns-then-ends-clause-feeds c = λ policy f bytes stands.
    let over : ends (Some c.in-Err.fault) ≡ true = sym c.ends.ensures ∙ c.if-ends.true in
    let feeds = c.in-Err.ensures.feeds policy f bytes stands.stands (not_other over refl) in
    FeedsFront-all c.over-room.ensures.state (search rules) c.written-then-ends.ensures.taken c.written-then-ends.ensures.within feeds (not_other over refl) c.feed.ensures.base (λ e. cc) (λ _. c.in-Err.ensures.spends.1 (refl, not_other over refl))
    (of_feeding c.in-Err.fault c.in-Err.ensures.faults (λ e. let spent = c.in-Err.ensures.spent.0 (ap Err e) in let unspent = stands.stands.unspent in cc)
    (λ at e. not_fed ucd c.every_character_is_sound.ensures.character _ at policy f bytes c.args.piece.now _ _ _ feeds (ap Err e)))

pub returns-clause-feeds : goal.returns-clause-feeds
returns-clause-feeds c = λ policy f bytes stands.
    let goes : ends (Some c.in-Err.fault) ≡ false = sym c.ends.ensures ∙ c.if-ends.false in
    let back = c.go_back.ensures policy f bytes (StandsAfter-of stands) in
    FeedsFront-none goes (of_staying c.in-Err.fault goes) (ap (λ (s : Saved). s.base) (back.saved ∙ sym stands.saved)) back.stands

pub returns-clause-full : goal.returns-clause-full
returns-clause-full c = λ policy f bytes stands is.
    let full : c.in-Err.fault ≡ Write = cc in (
      c.go_back.ensures policy f bytes (StandsAfter-of stands),
      too_little c.feed.new.sink c.over-room.ensures.state (search rules) ((c.in-Err.ensures.feeds policy f bytes stands.stands (λ e. cc)).broken_off (ap Err full)),
    )
