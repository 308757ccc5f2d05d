use Rattle.nf_vectors.proofs.Common.{YieldsList-from_slice, count_from_yields_List, YieldsList-from_take_while, length-prefix_len, reverse, ◌≡◌, ◌-◌, length, ◌∙◌, take, drop, take_rest, rules, tests, is_blank}
use Rattle.std.proofs.lemmas.Iterator.Adapters.{YieldsList-from_rev_slice}
use Rattle.std.specs.List.{prefix_len, suffix_len}
use Rattle.nf_vectors.proofs.scan.trimmed.Goals as goal

pub returns-clause-text : goal.returns-clause-text
returns-clause-text c =
    let bytes = c.args.bytes.now in
    let from = c.count-before.result in
    let rest = take (length bytes - from) (drop from bytes) in
    let before : from ≡ prefix_len is_blank bytes =
    count_from_yields_List c.take_while.result _ c.count-before.ensures.ran
    (YieldsList-from_take_while _ is_blank (YieldsList-from_slice bytes cc) c.take_while.ensures.closure c.take_while.ensures.done (λ x b q k. search (rules, tests)))
    ∙ length-prefix_len is_blank bytes in
    let after : c.count-after.result ≡ suffix_len is_blank rest =
    count_from_yields_List c.take_while-2.result _ c.count-after.ensures.ran
    (YieldsList-from_take_while _ is_blank (YieldsList-from_rev_slice rest cc) c.take_while-2.ensures.closure c.take_while-2.ensures.done (λ x b q k. search (rules, tests)))
    ∙ length-prefix_len is_blank (reverse rest) in
    search (rules, before, after, take_rest)
