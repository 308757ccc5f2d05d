use Rattle.nf_utf8.proofs.StandingLemmas.{tells-answers, tells-stands}
use Rattle.nf_utf8.proofs.decoder.Decoder.push_any.Goals as goal

pub returns-clause-answer : goal.returns-clause-answer
returns-clause-answer c bytes s = tells-answers c.args.byte (rw c.self.view_is s) c.self.invariant c.step-step.result c.step-step.ensures

pub returns-clause-stands : goal.returns-clause-stands
returns-clause-stands c bytes s = rw c.after-self-inside.ensures (tells-stands c.args.byte (rw c.self.view_is s) c.self.invariant c.step-step.result c.step-step.ensures)
