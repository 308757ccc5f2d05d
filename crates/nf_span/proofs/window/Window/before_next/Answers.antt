use Rattle.std.proofs.Common.{arith, w64}
use Rattle.std.proofs.lemmas.Nat.Bits.{bit_at-trailing_zeros, bit_at-zero}
use Rattle.nf_span.proofs.WindowLemmas.{window_front}
use Rattle.nf_span.proofs.window.Window.before_next.Goals as goal

pub returns-then-self-eq0-clause-none : goal.returns-then-self-eq0-clause-none
returns-then-self-eq0-clause-none c _ f bytes here = window_front f bytes c.args.self here _ (omega arith) (λ i _. rw (c.if-self-eq0.true, bit_at-zero))

pub returns-clause-next : goal.returns-clause-next
returns-clause-next c f bytes here =
    let next = bit_at-trailing_zeros w64 c.args.self.looks (omega (arith, c.if-self-eq0.false)) (omega arith) in
    let there = here.begins _ next.1 in
    (record { front = window_front f bytes c.args.self here _ (omega (arith, there.0)) next.2; begins = λ _. there.1 }, there.0)
