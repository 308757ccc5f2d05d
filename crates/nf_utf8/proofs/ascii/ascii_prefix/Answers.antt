use Rattle.std.proofs.Common.{sym, ◌∙◌, arith}
use Rattle.nf_utf8.proofs.AsciiLemmas.{all_below, run_is}
use Rattle.nf_utf8.proofs.ascii.ascii_prefix.Goals as goal

pub returns-then-others-ne0 : goal.returns-then-others-ne0
returns-then-others-ne0 c = rw c.not_ascii-others.ensures (
    let run = run_is c.args.bytes.now c.loop-at.at 16 (omega arith) c.loop-at.invariant.ascii (omega arith) (rw c.not_ascii-others.ensures at c.if-others-ne0.true) in
    record { within = run.0; ascii = run.1; longest = λ _. run.2 })

pub after_blocks-at-requires-clause-ascii : goal.after_blocks-at-requires-clause-ascii
after_blocks-at-requires-clause-ascii c =
    all_below c.args.bytes.now c.loop-at.at 16 (omega arith) c.loop-at.invariant.ascii (sym c.not_ascii-others.ensures ∙ c.if-others-ne0.false)
