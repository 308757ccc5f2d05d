use Rattle.nf_vectors.proofs.Common.{YieldsList-from_slice, count_from_yields_List, YieldsList-from_take_while, length-prefix_len, ◌≡◌, ◌==◌, ◌∙◌, sym, not, take_rest, rules, tests, position_or_len}
use Rattle.nf_vectors.proofs.scan.cut.Goals as goal
use Rattle.nf_vectors.proofs.scan.cut.Goals.{After-count-len}

len_is : (c : After-count-len) → c.count-len.result ≡ position_or_len (λ b. b == c.args.separator) c.args.bytes.now
len_is c =
    let bytes = c.args.bytes.now in
    count_from_yields_List c.take_while.result _ c.count-len.ensures.ran
    (YieldsList-from_take_while _ (λ b. not (b == c.args.separator)) (YieldsList-from_slice bytes cc) c.take_while.ensures.closure c.take_while.ensures.done (λ x b q k. search (rules, tests)))
    ∙ length-prefix_len (λ b. not (b == c.args.separator)) bytes

pub returns-then-len-bytes-clause-parts : goal.returns-then-len-bytes-clause-parts
returns-then-len-bytes-clause-parts c = sym (len_is (goal.at.returns-then-len-bytes-clause-parts c).After-count-len) ∙ c.if-len-bytes.true

pub returns-clause-parts : goal.returns-clause-parts
returns-clause-parts c = search (rules, len_is (goal.at.returns-clause-parts c).After-count-len, take_rest)
