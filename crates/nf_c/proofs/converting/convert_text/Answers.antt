use Rattle.std.proofs.Common.{arith, ◌≡◌, ◌<◌, ◌^◌, [], length, None, ◌∙◌, rules}
use Rattle.nf_c.proofs.Common.{as_is}
use Rattle.nf_c.proofs.ConvertsLemmas.{stops_within, stands_whole, full_at_end, reaches_end}
use Rattle.nf_c.proofs.converting.convert_text.Goals as goal

pub returns-then-is_some : goal.returns-then-is_some
returns-then-is_some c =
    let fed_all = c.feed_all-fed.ensures.feeds c.args.policy c.args.form [] (c.kept-state.ensures.stands _ _ [] (c.policy-filter.ensures.stands as_is _ [] c.quickest.ensures.stands)) in
    let small : length c.args.input.now < 2 ^ 64 = search rules in
    stops_within (c.policy-filter.ensures.base ∙ c.quickest.ensures.base) fed_all.0 (search rules) fed_all.2 (fed_all.1 (omega (arith, small, c.policy-filter.ensures.offset, c.quickest.ensures.offset)))

pub returns-then-is_full : goal.returns-then-is_full
returns-then-is_full c =
    let fed_all = c.feed_all-fed.ensures.feeds c.args.policy c.args.form [] (c.kept-state.ensures.stands _ _ [] (c.policy-filter.ensures.stands as_is _ [] c.quickest.ensures.stands)) in
    let base = c.policy-filter.ensures.base ∙ c.quickest.ensures.base in
    let none : c.feed_all-fed.result.fault ≡ None = search rules in
    let all = c.feed_all-fed.ensures.all none in
    full_at_end base fed_all.0 none all (search rules) (c.finish_filter-finished.ensures.finishes _ _ _ (stands_whole base fed_all.0 none all)) (search rules)

pub returns : goal.returns
returns c =
    let fed_all = c.feed_all-fed.ensures.feeds c.args.policy c.args.form [] (c.kept-state.ensures.stands _ _ [] (c.policy-filter.ensures.stands as_is _ [] c.quickest.ensures.stands)) in
    let base = c.policy-filter.ensures.base ∙ c.quickest.ensures.base in
    let none : c.feed_all-fed.result.fault ≡ None = search rules in
    let all = c.feed_all-fed.ensures.all none in
    reaches_end base fed_all.0 none all (search rules) (c.finish_filter-finished.ensures.finishes _ _ _ (stands_whole base fed_all.0 none all)) (search rules) c.finish_filter-finished.ensures.written c.longest_text.ensures
