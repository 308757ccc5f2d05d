use Rattle.nf_vectors.proofs.Common.{rules, [], ◌∷◌, length-append, ℕ, ◌*◌, ◌≤◌, List, length, encode_utf8, encode_utf8_all, refl, ap, arith, is_some, length-take-le, length-encode, len_utf8_bounds}
use Rattle.nf_vectors.proofs.ComparisonLemmas.{leaves-none, leaves-at, leaves-unsound}
use Rattle.nf_vectors.proofs.comparison.leaves_format.Goals as goal

encode_utf8-le : (c : ℕ) → length (encode_utf8 c) ≤ 4
encode_utf8-le c = omega (arith, length-encode c, (len_utf8_bounds c).1)

encode_utf8_all-le : (x : List ℕ) → length (encode_utf8_all x) ≤ 4 * length x
encode_utf8_all-le [] = omega arith
encode_utf8_all-le (c ∷ x) = grind (arith, length-append, encode_utf8-le, encode_utf8_all-le x)

pub loop-c-init : goal.loop-c-init
loop-c-init g c = record { stands = c.new-checker.ensures.stands (g.R.Rows.properties c.args.rows.now); none = c.new-checker.ensures.place; sound = refl }

pub see-requires : goal.see-requires
see-requires g c = λ none. grind (arith, encode_utf8_all-le, encode_utf8-le, length-take-le, c.loop-c.invariant.stands.offset none)

pub returns-in-Ok-Some : goal.returns-in-Ok-Some
returns-in-Ok-Some g c =
    let seen = c.loop-c.invariant in
    grind (arith, leaves-at, c.in-Ok-Some.ensures.refuses (ap is_some seen.none), c.in-Ok-Some.ensures.stands 0 _ seen.stands)

pub returns-in-Err : goal.returns-in-Err
returns-in-Err g c = search (rules, leaves-unsound)

pub returns : goal.returns
returns g c = search (rules, leaves-none)
