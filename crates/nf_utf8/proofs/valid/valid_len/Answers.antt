use Rattle.nf_utf8.proofs.Common.{arith, length-drop, take_rest, utf8_valid_len-IsUtf8}
use Rattle.nf_utf8.proofs.TextLen.{text_len-split}
use Rattle.nf_utf8.proofs.LossyLemmas.{text_len-front}
use Rattle.nf_utf8.proofs.valid.valid_len.Goals as goal

pub returns-then-front-valid_up_to-gt3 : goal.returns-then-front-valid_up_to-gt3
returns-then-front-valid_up_to-gt3 c = grind (arith, text_len-front c.args.bytes.now c.min.result)

pub returns-in-Ok : goal.returns-in-Ok
returns-in-Ok c =
    let at = c.valid_parts-at in
    omega (arith, text_len-split c.args.bytes.now at.result at.ensures.0 at.ensures.1, utf8_valid_len-IsUtf8 _ (rw take_rest at c.in-Ok.ensures.cases.1), length-drop at.result c.args.bytes.now)

pub returns-in-Err-from_utf8 : goal.returns-in-Err-from_utf8
returns-in-Err-from_utf8 c =
    let at = c.valid_parts-at in
    let rest = rw take_rest at c.in-Err-from_utf8.ensures.valid_len in
    omega (arith, rest, text_len-split c.args.bytes.now at.result at.ensures.0 at.ensures.1)
