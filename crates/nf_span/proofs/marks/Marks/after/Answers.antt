use Rattle.std.proofs.Common.{inl, sym, ◌∙◌}
use Rattle.nf_forms.specs.Ucd.{ucd}
use Rattle.nf_forms.specs.Laws.SpanSteps.{begins_run}
use Rattle.nf_span.proofs.marks.Marks.after.Goals as goal

pub returns-then-passes-clause-goes_on : goal.returns-then-passes-clause-goes_on
returns-then-passes-clause-goes_on c =
    let passes = sym (c.passes.ensures c.args._c c.requires) ∙ c.if-passes.true in
    inl (begins_run ucd c.args.form c.args._c (c.the_quick_check_tells.ensures.own_boundary c.args.form c.args._c passes) (c.every_character_is_sound.ensures.character c.args._c))
