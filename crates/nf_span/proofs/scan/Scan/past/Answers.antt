use Rattle.std.proofs.Common.{◌≡◌, ◌++◌, length, sym, ap, ◌∙◌, arith, take, drop, take-append-drop, length-take-le}
use Rattle.std.proofs.lemmas.Str.{IsUtf8-take}
use Rattle.nf_forms.specs.Ucd.{ucd}
use Rattle.nf_forms.specs.Laws.SpanSteps.{begins_run}
use Rattle.nf_span.proofs.PlainLemmas.{boundary, span_from-plain}
use Rattle.nf_span.proofs.ScanLemmas.{reaches_past_piece}
use Rattle.nf_span.proofs.scan.Scan.past.Goals as goal

pub range_from-requires : goal.range_from-requires
range_from-requires c = λ some. boundary c.args.form c.args.self.rest.now c.args.len c.requires.front.within c.requires.begins

pub returns-clause-span : goal.returns-clause-span
returns-clause-span c = λ text here.
    let form = c.args.form in
    let rest = c.args.self.rest.now in
    let len = c.args.len in
    let front = take len rest in
    let whole : front ++ drop len rest ≡ rest = take-append-drop len rest in
    let long : length front ≡ len = length-take-le len rest c.requires.front.within in
    let u = IsUtf8-take rest len here.rest_utf8 (boundary form rest len c.requires.front.within c.requires.begins) in
    reaches_past_piece here c.range_from.utf8 front u
    (sym whole ∙ ap (λ t. front ++ t) (sym c.range_from.ensures.value))
    (span_from-plain form (λ x passes. begins_run ucd form x (c.the_quick_check_tells.ensures.own_boundary form x (c.plain_ranges_pass.ensures form x passes)) (c.every_character_is_sound.ensures.character x))
    c.args.self.marks.class c.args.self.marks.count front (drop len rest) u (omega (arith, long))
    (λ k inside. rw whole (c.requires.front.plain k (omega (arith, long)))))
