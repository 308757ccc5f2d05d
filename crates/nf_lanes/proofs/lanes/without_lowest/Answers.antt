use Rattle.std.proofs.Common.{◌-◌, ◌<◌, ⊎_elim, arith}
use Rattle.std.proofs.lemmas.Nat.{and_le_r}
use Rattle.std.proofs.lemmas.Nat.Bits.{bit_at_and}
use Rattle.std.proofs.str.Laws.{order}
use Rattle.nf_lanes.proofs.BitsLemmas.{one_less}
use Rattle.nf_lanes.proofs.lanes.without_lowest.Goals as goal

pub returns : goal.returns
returns c =
    let set = c.args.set in
    record {
      fewer = omega (arith, c.requires, and_le_r set (set - 1));
      others = λ place one below.
          let less = one_less place set one below in (
            omega (arith, bit_at_and set (set - 1) place, less.0),
            λ k apart.
                ⊎_elim
                (λ before. omega (arith, bit_at_and set (set - 1) k, below k before))
                (λ from. let after : place < k = omega (arith, from, apart) in omega (arith, bit_at_and set (set - 1) k, less.1 k after))
                (order k place),
          );
    }
