use Rattle.std.proofs.Common.{rules, ◌++◌, sym, ap, ◌∙◌}
use Rattle.std.specs.Prelude.{encode_utf8}
use Rattle.nf_span.proofs.ScanLemmas.{reaches_past_char, after_character, of_first}
use Rattle.nf_span.proofs.scan.Scan.step.Goals as goal

pub returns-in-Some-after-clause-span : goal.returns-in-Some-after-clause-span
returns-in-Some-after-clause-span c = λ text here.
    let e = sym c.chars-chars.ensures.rest ∙ c.in-Some.ensures.steps.0 ∙ ap (λ t. encode_utf8 c.in-Some.c ++ t) (sym c.as_str.ensures) in
    reaches_past_char here c.as_str.utf8 c.in-Some.c (search rules) e c.in-Some-after.ensures.goes_on

pub returns-in-Some-after-clause-rest : goal.returns-in-Some-after-clause-rest
returns-in-Some-after-clause-rest c =
    after_character _ _ c.in-Some.c (sym c.chars-chars.ensures.rest ∙ c.in-Some.ensures.steps.0 ∙ ap (λ t. encode_utf8 c.in-Some.c ++ t) (sym c.as_str.ensures))

pub returns-in-None-clause-next : goal.returns-in-None-clause-next
returns-in-None-clause-next c = λ text here.
    of_first _ _ c.in-Some.c c.of-known.result here.rest_utf8 (sym c.chars-chars.ensures.rest ∙ c.in-Some.ensures.steps.0) c.of-known.ensures
