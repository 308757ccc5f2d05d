use Rattle.nf_cmd.proofs.Common.{◌≡◌, ◌∙◌, ℕ, zero, suc, ◌-◌, ◌/◌, ◌<◌, ◌≤◌, ◌^◌, List, ◌++◌, length, drop, take, take-append-drop, replicate, min, refl, sym, ap, arith, rules}
use Rattle.std.proofs.lemmas.List.{drop-append-le, drop-replicate, length-drop, length-replicate, take_rest}
use Rattle.std.proofs.lemmas.Grind.{common_steps}
use Rattle.std.proofs.DigitsParse.{digits_onto_last, digits_onto_step}
unfoldable use Rattle.std.specs.Fmt.{digits}
unfoldable use Rattle.nf_cmd.specs.Text.{code_digits}
use Rattle.nf_cmd.specs.Text.{padded}
use Rattle.nf_cmd.proofs.lines.Lines.code.Goals as goal

-- there is room for a digit, and for those after it
room : (at rest : ℕ) → 0 < rest → rest < 16 ^ at → (0 < at) × (rest / 16 < 16 ^ (at - 1))
room zero rest some fits = absurd (omega arith)
room (suc at) rest some fits = let less : rest / 16 < 16 ^ at = omega arith in let same : suc at - 1 ≡ at = omega arith in (omega arith, rw same less)

-- the zeros that are written, and the digits
shown : (at : ℕ) (digits : List ℕ) → length digits ≡ 6 → at ≤ 6 → take at digits ≡ replicate at 48 → drop (min at 2) digits ≡ padded (drop at digits)
shown at digits size most zeros =
    ap (drop (min at 2)) (sym (take-append-drop at digits) ∙ ap (λ front. front ++ drop at digits) zeros)
    ∙ drop-append-le (min at 2) (replicate at 48) (drop at digits) (omega (arith, length-replicate {A = ℕ} at 48)) ∙ ap (λ front. front ++ drop at digits) (drop-replicate (min at 2) at 48)
    ∙ ap (λ n. replicate n 48 ++ drop at digits) (omega (arith, length-drop at digits))

pub loop-rest-init : goal.loop-rest-init
unfolding code_digits digits
loop-rest-init c = record { size = refl; most = omega arith; fits = omega arith; zeros = refl; done = λ none. let zero : c.args.c ≡ 0 = omega arith in rw zero refl; left = λ _. rw c.from-rest.ensures refl }

pub overflow_sub-at : goal.overflow_sub-at
overflow_sub-at c = omega (arith, room c.loop-rest.at c.loop-rest.rest)

pub loop-rest-preserved : goal.loop-rest-preserved
loop-rest-preserved c =
    let l = c.loop-rest in
    let some = room l.at l.rest (omega arith) l.invariant.fits in
    record {
      size = grind (arith, common_steps);
      most = omega arith;
      fits = some.1;
      zeros = grind (arith, common_steps);
      done = λ none. grind (arith, common_steps, digits_onto_last);
      left = λ more. grind (arith, common_steps, digits_onto_step);
    }

pub returns-clause-bytes : goal.returns-clause-bytes
returns-clause-bytes c =
    let l = c.loop-rest in
    let before = c.args.self.now.bytes.items in
    let made : c.try_extend_from_slice.new.self.items ≡ before ++ drop (min l.at 2) l.digits = search (rules, take_rest) in
    made ∙ ap (λ shown. before ++ shown) (shown l.at l.digits l.invariant.size l.invariant.most l.invariant.zeros ∙ sym (l.invariant.done (omega arith)))
