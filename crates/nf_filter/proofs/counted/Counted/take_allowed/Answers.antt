use Rattle.nf_filter.proofs.Common.{ℕ, ◌≡◌, ◌<◌, ◌∷◌, ◌++◌, length, sym, ap, ◌∙◌, arith, rules, length-append, chars, encodes-chars}
use Rattle.std.proofs.Math.Nat.{zero-add}
use Rattle.nf_filter.proofs.TakingLemmas.{front-whole}
use Rattle.nf_filter.proofs.AllowingLemmas.{first-left, allowed-part, TakesAllowed-all, TakesAllowed-refused, TakesAllowed-unassigned}
use Rattle.nf_filter.proofs.counted.Counted.take_allowed.Goals as goal

pub returns-in-Err-clause-takes : goal.returns-in-Err-clause-takes
returns-in-Err-clause-takes g c = λ f place x start taken all here written.
    let part = allowed-part _ _ _ _ c.split_allowed.ensures.whole c.split_allowed.ensures.front c.in-Err.ensures.takes f place x start taken all here written in
    TakesAllowed-refused part.0 part.1

pub returns-then-is_empty-clause-takes : goal.returns-then-is_empty-clause-takes
returns-then-is_empty-clause-takes g c = λ f place x start taken all here written.
    let same = front-whole _ _ c.split_allowed.result.1.now c.split_allowed.ensures.whole (search rules) in
    let part = allowed-part _ _ _ _ c.split_allowed.ensures.whole c.split_allowed.ensures.front c.in_default.ensures.takes f place x start taken all here written in
    TakesAllowed-all (rw same at part.0) (rw same at part.1)

pub returns-clause-takes : goal.returns-clause-takes
returns-clause-takes g c = λ f place x start taken all here written.
    let text = chars c.args.text.now in
    let a = c.split_allowed.result.0.now in
    let some = first-left c.split_allowed.result.1.now (search rules) (search rules) in
    let more : text ≡ chars a ++ some.0 ∷ some.1 = rw some.2 at c.split_allowed.ensures.whole in
    let less : length (x ++ chars a) < length (x ++ text) = omega (arith, length-append {A = ℕ}, ap length more) in
    let part = allowed-part _ _ _ _ c.split_allowed.ensures.whole c.split_allowed.ensures.front c.in_default.ensures.takes f place x start taken all here written in
    TakesAllowed-unassigned part.0 less (here (chars a) some.0 some.1 more ∙ rw (encodes-chars a (search rules), zero-add) (sym c.at.ensures)) part.1

pub returns-then-is_empty-clause-chars : goal.returns-then-is_empty-clause-chars
returns-then-is_empty-clause-chars g c = rw (front-whole _ _ c.split_allowed.result.1.now c.split_allowed.ensures.whole (search rules)) at c.in_default.ensures.chars
