use Rattle.nf_normalized.proofs.Common.{ap, length, ◌≡◌, ◌+◌, ◌<◌, ◌^◌, text_of, first_text, chars, encodes-append, length-append, length-le-encodes, append_assoc, arith, [], ◌++◌}
use Rattle.nf_filter.proofs.ReadingLemmas.{text_of-none}
use Rattle.nf_normalized.proofs.counting.text_in.Goals as goal
use Rattle.nf_normalized.proofs.counting.text_in.Goals.{After-counted-after}

pub returns-in-Bad : goal.returns-in-Bad
returns-in-Bad c = grind (arith, c.pieces.ensures.bad_text c.args.first.now c.args.second.now, c.take-chunk.ensures.takes [] c.new-decoder.ensures, text_of-none)

-- what both read
read : (c : After-counted-after) → text_of (c.args.first.now ++ c.args.second.now)
    ≡ (first_text c.take-chunk.result.first ++ chars c.take-chunk.result.text.now) ++ (first_text c.take.result.first ++ chars c.take.result.text.now)
read c =
    let before = c.new-decoder.ensures in
    let after = (c.take.ensures.takes _ (c.take-chunk.ensures.stands [] before)).spelled in
    grind (arith, after, c.take-chunk.ensures.takes [] before, c.in_default.not-Bad, text_of-none, append_assoc)

-- they are no more bytes than were given
fits : (c : After-counted-after) → c.counted-front.result.bytes + c.counted-after.result.bytes < 2 ^ 64
fits c = grind (arith, read c, ap length (c.split.ensures.split (c.args.first.now ++ c.args.second.now)), encodes-append, length-append)

pub overflow_add-result : goal.overflow_add-result
overflow_add-result c = grind (arith, fits (goal.at.overflow_add-result c).After-counted-after, length-le-encodes)

pub overflow_add-result-2 : goal.overflow_add-result-2
overflow_add-result-2 c = omega (arith, fits (goal.at.overflow_add-result-2 c).After-counted-after)

pub returns : goal.returns
returns c = grind (arith, read (goal.at.returns c).After-counted-after, encodes-append, length-append)
