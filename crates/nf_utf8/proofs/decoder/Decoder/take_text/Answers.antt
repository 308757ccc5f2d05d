use Rattle.nf_utf8.proofs.Common.{◌≡◌, ◌+◌, ℕ, List, [], Completes, length, ap, arith, length-drop, length-take, take_rest, text_len}
use Rattle.nf_utf8.proofs.TextLen.{text_len-longest, text_len-rest}
use Rattle.nf_utf8.proofs.TakingLemmas.{Joined, joined_from, taken, counts, can_end}
use Rattle.nf_utf8.proofs.decoder.Decoder.take_text.Goals as goal

pub split_at-requires : goal.split_at-requires
split_at-requires c = rw c.valid_len.ensures (text_len-longest _).within

pub from_utf8_unchecked-text-requires : goal.from_utf8_unchecked-text-requires
from_utf8_unchecked-text-requires c = rw (c.split_at.ensures.front, c.valid_len.ensures) (text_len-longest _).holds

pub end-requires : goal.end-requires
end-requires c =
    let none : text_len c.split_at.result.1.now ≡ 0 = rw (c.split_at.ensures.back, c.valid_len.ensures) (text_len-rest _) in
    can_end c.split_at.result.1.now c.front.result (c.args.from + length c.from_utf8_unchecked-text.result.now) c.front.ensures none
    (omega (arith, length-drop {A = ℕ}, length-take {A = ℕ}, ap length c.from_utf8_unchecked-text.ensures))

joined : (c : goal.After-text-1) (held : List ℕ) → Completes held c.args.piece.now c.args.first c.args.from
    → Joined held c.args.piece.now c.args.first c.from_utf8_unchecked-text.result.now [] c.split_at.result.1.now (c.args.from + length c.from_utf8_unchecked-text.result.now)
joined c held h =
    let text = c.from_utf8_unchecked-text in
    joined_from c.args.from h c.requires (rw text.ensures (rw take_rest at c.split_at.ensures.by_index.0)) text.utf8

pub returns-clause-takes : goal.returns-clause-takes
returns-clause-takes c held bytes h s = (taken (joined c held h) s c.front.result c.end.result c.end.new.self c.front.ensures c.end.ensures).0

pub returns-clause-stands : goal.returns-clause-stands
returns-clause-stands c held bytes h s = (taken (joined c held h) s c.front.result c.end.result c.end.new.self c.front.ensures c.end.ensures).1

pub returns-clause-counts : goal.returns-clause-counts
returns-clause-counts c held h = counts (joined c held h) c.front.result c.end.result c.end.new.self c.front.ensures c.end.ensures
