-- Rows joined, one member after the other.
use Rattle.std.proofs.Common.{◌≡◌, ℕ, ◌+◌, ◌≤◌, ◌<◌, true, List, length, take, get_or, flat_map, arith, ap, sym, refl, ◌∙◌, Result, Ok, Err, IsOk, is_err}
use Rattle.std.proofs.lemmas.List.Folds.{length-flat_map-take}
use Rattle.nf_row.proofs.auditing.joined.Goals as goal

-- what a front and the row after it have, all have
length-joined : (row : ℕ → List ℕ) {w items : List ℕ} {c : ℕ} (i : ℕ) → items ≡ w → c ≡ get_or items i c → i < length items
    → length (flat_map row (take i items)) + length (row c) ≤ length (flat_map row w)
length-joined row {w} {items} {c} i same is within =
    omega (arith, length-flat_map-take row items i c within, ap (λ d. length (row d)) is, ap (λ v. length (flat_map row v)) same)

-- what is refused does not fit
overflows : {A E : Type 0} (r : Result A E) (n : ℕ) → (n ≤ 18 → IsOk r) → is_err r ≡ true → 18 < n
overflows (Ok x) n fits refused = cc
overflows (Err e) n fits refused = grind arith

pub returns-in_default-clause-none : goal.returns-in_default-clause-none
returns-in_default-clause-none g c = λ _.
    let grown = length-joined (g.R.Rows.properties c.args.rows.now).compat c.loop-c.c-index c.as_slice-c-items.ensures.value c.c-item.is c.loop-c-test.true in
    omega (arith, c.in_default.ensures.long.0 refl)

pub returns-then-is_err-clause-none : goal.returns-then-is_err-clause-none
returns-then-is_err-clause-none g c = λ _.
    let grown = length-joined (g.R.Rows.properties c.args.rows.now).compat c.loop-c.c-index c.as_slice-c-items.ensures.value c.c-item.is c.loop-c-test.true in
    let over = overflows _ _ c.try_extend_from_slice.ensures.variant.1 (sym c.is_err.ensures.value ∙ c.if-is_err.true) in
    omega (arith, ap length c.loop-c.invariant, ap length c.in-Ok.ensures.row, ap length c.as_slice.ensures.value)
