use Rattle.std.proofs.Common.{◌+◌, arith, w64}
use Rattle.std.proofs.lemmas.Nat.Bits.{bit_at-trailing_zeros, bit_at-zero}
use Rattle.nf_counts.proofs.WindowLemmas.{told_before}
use Rattle.nf_counts.proofs.window.Window.next.Goals as goal

pub returns-then-self-eq0-clause-none : goal.returns-then-self-eq0-clause-none
returns-then-self-eq0-clause-none c _ text at left = record { told = told_before text at _ left 63 (omega arith) (λ i _. rw (c.if-self-eq0.true, bit_at-zero)); inner = left.inner }

pub returns-clause-next : goal.returns-clause-next
returns-clause-next c text at left =
    let window = c.args.self.now in
    let place = bit_at-trailing_zeros w64 window.found (omega (arith, c.if-self-eq0.false)) (omega arith) in
    let here = left.leads _ place.0 place.1 in
    let without = c.without_lowest-self.ensures.others _ place.1 place.2 in
    record {
      order = here.1;
      within = omega (arith, here.0);
      lead = here.2;
      told = told_before text at window left _ (omega (arith, here.0)) place.2;
      others = λ after past inner. record {
        before = λ k from to. absurd (omega (arith, past, from, to));
        inner = λ k beyond. inner k (omega (arith, beyond, here.0));
        leads = λ k small is. grind (arith, without.0, without.1 k, place.2 k, left.leads k small, inner (window.base + k));
        told = λ k few unset from. left.told k few (grind (arith, without.1 k)) (omega (arith, here.1, past));
      };
    }
