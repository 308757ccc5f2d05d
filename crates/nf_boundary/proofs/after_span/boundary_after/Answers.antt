use Rattle.std.proofs.Common.{chars, drop_at}
use Rattle.nf_boundary.proofs.Common.{ucd, span-front, rules, refl, ◌∙◌, IsUtf8-append}
use Rattle.nf_entry.specs.Entry.{IsOfFirst}
use Rattle.nf_boundary.proofs.PieceLemmas.{seam, stands_end}
use Rattle.nf_boundary.proofs.SeenLemmas.{first_of_front}
use Rattle.nf_boundary.proofs.after_span.boundary_after.Goals as goal

pub returns : goal.returns
returns c = search (rules, stands_end, c.requires.span.text, c.requires.span.is_span, c.in-Some.ensures.0, c.in-Some.ensures.1)

pub split_at-requires : goal.split_at-requires
split_at-requires c =
    let here = c.split-span.ensures.span c.args.form c.args.text.now c.requires.span in
    search (rules, seam, IsUtf8-append)

pub returns-2 : goal.returns-2
returns-2 c =
    let span = c.split-span.result in
    let here = c.split-span.ensures.span c.args.form c.args.text.now c.requires.span in
    let front = span-front ucd c.args.form _ (chars span.tail.now) _ _ here.span in
    let back = c.in_ok-next.ensures.0 ∙ rw (here.text, drop_at span.settled.now _ _ refl) at c.split_at.ensures.back in
    stands_end _ _ _ _ _ _ here.text front.2 (search rules) c.every_character_is_sound.ensures.text _ back (search rules)

pub known_first-requires : goal.known_first-requires
known_first-requires c =
    let span = c.split-span.result in
    let here = c.split-span.ensures.span c.args.form c.args.text.now c.requires.span in
    let first : IsOfFirst span.tail.now c.in_ok-span.field-0 = rw c.in_ok-span.was at c.split-span.ensures.known in
    let back = rw (here.text, drop_at span.settled.now _ _ refl) at c.split_at.ensures.back in
    rw back (first_of_front span.tail.now span.rest.now _ (search rules) first)
