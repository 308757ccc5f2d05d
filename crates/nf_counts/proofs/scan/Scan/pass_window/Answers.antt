use Rattle.std.proofs.Common.{◌≡◌, rules, ◌+◌, ◌-◌, refl, arith}
use Rattle.std.proofs.lemmas.List.{get_or-drop}
use Rattle.nf_counts.proofs.WindowLemmas.{stands, begins_at}
use Rattle.nf_counts.proofs.scan.Scan.pass_window.Goals as goal

pub pass_both-requires : goal.pass_both-requires
pass_both-requires c =
    let next = c.in-Some.ensures.next _ _ c.loop-place.invariant.left in
    record {
      reaches = c.loop-place.invariant.reaches;
      order = next.order;
      boundary = rw c.loop-place.invariant.text (begins_at _ _ next.lead);
      told = rw c.loop-place.invariant.text next.told;
      piece = rw (c.loop-place.invariant.text, ← c.range_from.ensures.value) c.first_character-character.ensures.piece;
    }

pub overflow_add-third : goal.overflow_add-third
overflow_add-third c = omega (arith, (c.in-Some.ensures.next _ _ c.loop-place.invariant.left).within)

pub bounds-as_bytes-place : goal.bounds-as_bytes-place
bounds-as_bytes-place c =
    rw c.as_bytes.ensures.value (omega (arith, (c.in-Some.ensures.next _ _ c.loop-place.invariant.left).within))

pub range_from-requires : goal.range_from-requires
range_from-requires c = λ _. begins_at _ _ (c.in-Some.ensures.next _ _ c.loop-place.invariant.left).lead

pub first_character-character-requires-clause-high : goal.first_character-character-requires-clause-high
first_character-character-requires-clause-high c = rw (c.range_from.ensures.value, get_or-drop) (grind (arith, (c.in-Some.ensures.next _ _ c.loop-place.invariant.left).lead))

pub loop-place-smaller : goal.loop-place-smaller
loop-place-smaller c =
    let next = c.in-Some.ensures.next _ _ c.loop-place.invariant.left in
    omega (arith, stands c.args.self.now.text.now c.in-Some.place next.lead, c.pass_both.ensures.further c.if-not-pass_both.false, c.first_character-character.ensures.piece.some)

pub loop-place-preserved : goal.loop-place-preserved
loop-place-preserved c =
    let text = c.args.self.now.text.now in
    let place = c.in-Some.place in
    let character = c.first_character-character.ensures in
    let there : c.pass_both.new.self.at ≡ place + c.first_character-character.result.len = omega (arith, c.pass_both.ensures.further c.if-not-pass_both.false) in
    let one = rw c.range_from.ensures.value at character.one in
    record {
      text = cc;
      base = cc;
      left = (c.in-Some.ensures.next _ _ c.loop-place.invariant.left).others _ (omega (arith, character.piece.some)) (λ k above below. grind (arith, one (k - place), get_or-drop place text (k - place) 0));
      reaches = c.pass_both.ensures.reaches;
    }

pub loop-place-init : goal.loop-place-init
loop-place-init c = search (rules, c.new-window.ensures.left _ c.requires.asked)

pub returns-clause-asked : goal.returns-clause-asked
returns-clause-asked c = λ _. rw (c.loop-place.invariant.text, ← c.loop-place.invariant.base) (c.in_default.ensures.none refl _ _ c.loop-place.invariant.left)
