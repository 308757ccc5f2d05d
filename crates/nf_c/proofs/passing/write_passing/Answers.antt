use Rattle.std.proofs.Common.{◌≡◌, ◌-◌, ◌<◌, length, take, slice_set, arith, ◌∙◌, rules}
use Rattle.std.proofs.lemmas.List.{length-take, length-set}
use Rattle.std.proofs.lemmas.Slice.{take-put_mid}
use Rattle.std.proofs.Math.Seq.{take-suc-set}
use Rattle.nf_c.proofs.passing.write_passing.Goals as goal

pub returns-clause-output : goal.returns-clause-output
returns-clause-output c =
    let some : 0 < length c.args.output.now = omega (arith, c.requires.room, c.requires.some) in
    let copied : c.copy_from_slice.new.self ≡ take (c.args.len - 1) c.args.input.now = search rules in
    take-put_mid 1 (c.args.len - 1) (slice_set c.args.output.now 0 c.args.state.now.starter) _ c.args.len (simp (copied, length-take) (omega (arith, c.requires.within, c.requires.some))) (simp length-set some)
    ∙ rw (take-suc-set c.args.output.now 0 c.args.state.now.starter some, copied)
