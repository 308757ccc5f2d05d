use Rattle.nf_utf8.proofs.Common.{◌≡◌, [], refl, sym, ◌∙◌, arith, length-take-le}
use Rattle.nf_utf8.proofs.TextLen.{text_len-longest}
use Rattle.nf_utf8.proofs.StandingLemmas.{text_of-none}
use Rattle.nf_utf8.proofs.NextLemmas.{reads-text, reads-begun, reads-one, bad, reads-bad}
use Rattle.nf_utf8.proofs.decoder.Decoder.next_text.Goals as goal

pub slice_bounds-from_utf8_unchecked-end : goal.slice_bounds-from_utf8_unchecked-end
slice_bounds-from_utf8_unchecked-end c = sym (length-take-le c.valid_len-len.result c.args.piece.now (rw c.valid_len-len.ensures (text_len-longest c.args.piece.now).within))

pub from_utf8_unchecked-text-requires : goal.from_utf8_unchecked-text-requires
from_utf8_unchecked-text-requires c = rw c.valid_len-len.ensures (text_len-longest c.args.piece.now).holds

pub returns-then-len-gt0-clause-reads : goal.returns-then-len-gt0-clause-reads
returns-then-len-gt0-clause-reads c =
    let nothing : c.args.self.now ≡ [] = sym c.self.view_is ∙ c.if-is_empty.ensures.0 refl in
    rw nothing (reads-text c.args.replace c.args.piece.now _ c.valid_len-len.result c.from_utf8_unchecked-text.utf8 c.from_utf8_unchecked-text.ensures (rw c.valid_len-len.ensures (text_len-longest c.args.piece.now).within) (omega arith))

pub returns-in-Char-clause-reads : goal.returns-in-Char-clause-reads
returns-in-Char-clause-reads c =
    let front = rw c.self.view_is at c.in-Char.ensures in
    reads-one c.args.self.now c.args.piece.now c.in-Char.c c.in-Char.len front.1 front.2 c.args.replace _ c.put_char-text.ensures front.0

pub returns-in-Begun-clause-reads : goal.returns-in-Begun-clause-reads
returns-in-Begun-clause-reads c =
    let front = rw c.self.view_is at c.in-Begun.ensures in
    rw front.1 (reads-begun c.args.replace c.args.self.now c.args.piece.now)

pub returns-in-Bad-clause-reads : goal.returns-in-Bad-clause-reads
returns-in-Bad-clause-reads c =
    rw c.if-replace-2.true (reads-bad c.args.self.now c.args.piece.now c.in-Bad.at c.in-Bad.back (rw c.self.view_is at c.in-Bad.ensures) c.subpart_len.result c.subpart_len.ensures)

pub returns-in-Bad-2-clause-bad : goal.returns-in-Bad-2-clause-bad
returns-in-Bad-2-clause-bad c =
    let is = rw c.self.view_is at c.in-Bad-2.ensures in
    let told = bad c.args.self.now c.args.piece.now c.in-Bad-2.at c.in-Bad-2.back is in
    (c.if-replace-2.false, is.0, text_of-none _ told.0, told.1)
