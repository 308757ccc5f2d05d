use Rattle.nf_boundary.proofs.Common.{rules, refl, take_at}
use Rattle.nf_boundary.proofs.SeenLemmas.{shorter}
use Rattle.nf_boundary.proofs.FillsLemmas.{fills_more, fills_segments}
use Rattle.nf_boundary.proofs.pieces.append_piece.Goals as goal

pub loop-after-smaller : goal.loop-after-smaller
loop-after-smaller c = search (rules, shorter)

pub loop-after-preserved : goal.loop-after-preserved
loop-after-preserved c = search (rules, fills_more, c.in_ok-join.ensures.becomes refl, c.in_ok-join.ensures.leaves refl)

pub returns-in-Some-clause-closes : goal.returns-in-Some-clause-closes
returns-in-Some-clause-closes c =
    fills_segments _ _ c.requires.at _ _ _ _ c.loop-after.invariant c.every_character_is_sound.ensures.text _ (c.in-Some.ensures.seen) c.in-Some.ensures.row.at _ (c.in_ok-close.ensures.closes refl)

-- what is appended stands after what there was: the prover finds this by itself, in half a minute
pub returns-in_err-join-clause-keeps : goal.returns-in_err-join-clause-keeps
returns-in_err-join-clause-keeps c = λ _. rw (c.in_err-join.ensures.stays refl, c.loop-after.invariant.becomes.formed) (take_at _ _ _ refl)

pub returns-in_err-next-2-clause-keeps : goal.returns-in_err-next-2-clause-keeps
returns-in_err-next-2-clause-keeps c = λ _. rw (c.in_ok-join.ensures.becomes refl _ _ c.loop-after.invariant.becomes).formed (take_at _ _ _ refl)

pub returns-in_err-close-clause-keeps : goal.returns-in_err-close-clause-keeps
returns-in_err-close-clause-keeps c = λ _. rw (c.in_err-close.ensures.stays refl, c.loop-after.invariant.becomes.formed) (take_at _ _ _ refl)
