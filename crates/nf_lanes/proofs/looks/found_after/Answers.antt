use Rattle.std.proofs.Common.{◌+◌, arith}
use Rattle.std.proofs.lemmas.Nat.Bits.{bit_at_and}
use Rattle.nf_lanes.specs.Looks.{left_after}
use Rattle.nf_lanes.proofs.BitsLemmas.{narrower, none_after}
use Rattle.nf_lanes.proofs.looks.found_after.Goals as goal

pub of_64-left-requires : goal.of_64-left-requires
of_64-left-requires c = record { few = (c.left_after.ensures.few, c.left_after-2.ensures.few, c.left_after-3.ensures.few, c.left_after-4.ensures.few) }

pub returns-clause-fewer : goal.returns-clause-fewer
returns-clause-fewer c k one = narrower _ _ k one

pub returns-clause-told : goal.returns-clause-told
returns-clause-told c k few one none =
    let t = c.args.family.now in
    let bytes = c.args.bytes.now in
    let are = c.of_64-left.ensures (left_after t c.args.lead bytes) c.args.at c.left_after.ensures.left c.left_after-2.ensures.left c.left_after-3.ensures.left c.left_after-4.ensures.left in
    none_after t c.args.lead bytes (c.args.at + k) (grind (arith, are k, bit_at_and c.args.found c.of_64-left.result k))
