use Rattle.nf_vectors.proofs.Common.{YieldsList-from_slice, count_from_yields_List, YieldsList-from_take_while, length-prefix_len, ap, ◌∙◌, not, take, rules, tests, is_gap}
use Rattle.nf_vectors.proofs.scan.before_gap.Goals as goal

pub returns : goal.returns
returns c =
    let bytes = c.args.bytes.now in
    ap (λ n. take n bytes) (count_from_yields_List c.take_while.result _ c.count-len.ensures.ran
    (YieldsList-from_take_while _ (λ b. not (is_gap b)) (YieldsList-from_slice bytes cc) c.take_while.ensures.closure c.take_while.ensures.done (λ x b q k. search (rules, tests)))
    ∙ length-prefix_len (λ b. not (is_gap b)) bytes)
