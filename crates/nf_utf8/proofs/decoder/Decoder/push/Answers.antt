use Rattle.nf_utf8.proofs.Common.{◌≡◌, [], refl, sym, ◌∙◌, arith, nat_tests, one, Char}
use Rattle.nf_utf8.specs.Tells.{Tells}
use Rattle.nf_utf8.proofs.StandingLemmas.{tells-answers, tells-stands, answers_same}
use Rattle.nf_utf8.proofs.decoder.Decoder.push.Goals as goal

nothing : (c : goal.After-from) → c.args.self.now ≡ []
nothing c = sym c.self.view_is ∙ c.if-is_empty.ensures.0 refl

told : (c : goal.After-from) → Tells [] c.args.byte (Char c.from.result)
told c = (grind (arith, nat_tests, c.from.ensures), grind (arith, one, c.from.ensures))

pub returns-then-byte-lt128-clause-answer : goal.returns-then-byte-lt128-clause-answer
returns-then-byte-lt128-clause-answer c bytes s = tells-answers c.args.byte (rw (nothing c) at s) tt (Char c.from.result) (told c)

pub returns-then-byte-lt128-clause-only : goal.returns-then-byte-lt128-clause-only
returns-then-byte-lt128-clause-only c bytes step s a = answers_same bytes c.args.byte step (Char c.from.result) a (returns-then-byte-lt128-clause-answer c bytes s)

pub returns-then-byte-lt128-clause-stands : goal.returns-then-byte-lt128-clause-stands
returns-then-byte-lt128-clause-stands c bytes s = rw (nothing c) (tells-stands c.args.byte (rw (nothing c) at s) tt (Char c.from.result) (told c))
