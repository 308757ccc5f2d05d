use Rattle.nf_normalizer.proofs.Common.{sym, ◌∙◌}
use Rattle.nf_normalizer.proofs.CharacterLemmas.{HasRoom-without, HasRoom-with, MakesRoom-without, MakesRoom-with, MakesRoom-stopped, settled_text-front}
use Rattle.nf_normalizer.proofs.normalizer.Normalizer.make_room.Goals as goal

pub returns-then-not-step_by-clause-has_room : goal.returns-then-not-step_by-clause-has_room
returns-then-not-step_by-clause-has_room g c =
    HasRoom-without _ c.args.self.now c.args._c (c.step_by.ensures.count _ _ c.requires.compat) c.requires.sound c.requires.within (sym (c.step_by.ensures.answer _ _ c.requires.compat) ∙ c.if-not-step_by.true)

pub returns-then-not-step_by-clause-parts : goal.returns-then-not-step_by-clause-parts
returns-then-not-step_by-clause-parts g c = λ f x start before holds.
    MakesRoom-without _ c.args.self.now c.args._c (c.step_by.ensures.count _ _ c.requires.compat) c.requires.sound before (sym (c.step_by.ensures.answer _ _ c.requires.compat) ∙ c.if-not-step_by.true) holds

pub returns-in-Ok-clause-has_room : goal.returns-in-Ok-clause-has_room
returns-in-Ok-clause-has_room g c = rw c.in-Ok.ensures.same
    (HasRoom-with _ c.args.self.now c.args._c (c.step_by.ensures.count _ _ c.requires.compat) c.requires.sound (sym (c.step_by.ensures.answer _ _ c.requires.compat) ∙ c.if-not-step_by.false) c.in-Ok.ensures.run)

pub returns-in-Ok-clause-parts : goal.returns-in-Ok-clause-parts
returns-in-Ok-clause-parts g c = λ f x start before holds. rw c.in-Ok.ensures.same
    (MakesRoom-with _ c.args.self.now c.args._c (c.step_by.ensures.count _ _ c.requires.compat) c.requires.sound before (sym (c.step_by.ensures.answer _ _ c.requires.compat) ∙ c.if-not-step_by.false)
    (c.in-Ok.ensures.puts f _ start before.pending (rw (← settled_text-front _ f x) holds)))

pub returns-in-Err-clause-parts : goal.returns-in-Err-clause-parts
returns-in-Err-clause-parts g c = λ f x start before holds.
    MakesRoom-stopped _ c.args.self.now c.args._c (c.step_by.ensures.count _ _ c.requires.compat) c.requires.sound before (sym (c.step_by.ensures.answer _ _ c.requires.compat) ∙ c.if-not-step_by.false)
    (c.in-Err.ensures.puts f _ start before.pending (rw (← settled_text-front _ f x) holds))
