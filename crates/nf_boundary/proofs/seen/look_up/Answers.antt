use Rattle.nf_boundary.proofs.Common.{◌≡◌, true, arith, Form}
use Rattle.nf_facts.specs.PlainRanges.{plain_ranges}
use Rattle.nf_facts.specs.Within.{lies_within, in_ranges-lies_within}
use Rattle.nf_boundary.proofs.seen.look_up.Goals as goal

ascii_in : (f : Form) → lies_within (plain_ranges f) 0 0x7F ≡ true
unfolding plain_ranges
ascii_in f = grind arith

pub of_passing-requires : goal.of_passing-requires
of_passing-requires c = λ f. c.plain_ranges_pass.ensures f c.args.c (in_ranges-lies_within _ 0 0x7F _ (ascii_in f) (omega arith) (omega arith))
