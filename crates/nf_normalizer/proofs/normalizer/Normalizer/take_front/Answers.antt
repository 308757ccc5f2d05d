use Rattle.std.proofs.lemmas.Option.{IfSome_then}
use Rattle.std.proofs.lemmas.Str.{chars_past_char}
use Rattle.nf_normalizer.proofs.Common.{◌≡◌, [], ◌∙◌, sym, rules}
use Rattle.nf_normalizer.proofs.FrontLemmas.{leaves-one, takes-one, refuses-one}
use Rattle.nf_normalizer.proofs.normalizer.Normalizer.take_front.Goals as goal
use Rattle.nf_normalizer.proofs.normalizer.Normalizer.take_front.Goals.{else-may_begin_segments-via-else-may_begin_segments, else-may_begin_segments-via-then-may_begin_segments+in-None-1}

pub returns-in-Ok-clause-passes : goal.returns-in-Ok-clause-passes
returns-in-Ok-clause-passes g c = leaves-one c.unwrap-c.result _ c.utf8.text (cc (rw c.unwrap-c.ensures at c.next.ensures.steps.0)) c.in-Ok.joined

pub returns-in-Ok-clause-takes : goal.returns-in-Ok-clause-takes
returns-in-Ok-clause-takes g c = λ f x start taken holds.
    let here : (c.else-may_begin_segments.self ≡ c.args.self.now) × (c.else-may_begin_segments.room ≡ c.args.room.now) × (c.else-may_begin_segments.formed.items ≡ []) = elim c.else-may_begin_segments.branch [
      | else-may_begin_segments-via-else-may_begin_segments w ↦ (w.self-is, w.room-is, rw w.formed-is c.requires.empty)
      | else-may_begin_segments-via-then-may_begin_segments+in-None-1 w ↦ let none = w.take_many.ensures.none (search rules) in (w.self-is ∙ none.0, w.room-is ∙ none.1, rw w.formed-is none.2)
    ] in
    rw here.2 (takes-one c.unwrap-c.result _ c.utf8.text (cc (rw c.unwrap-c.ensures at c.next.ensures.steps.0)) c.in-Ok.joined (rw c.in-Ok.is at (rw (here.0, here.1) at c.take_char.ensures.takes f x start taken holds)))

pub returns-in-Err-clause-takes : goal.returns-in-Err-clause-takes
returns-in-Err-clause-takes g c = λ f x start taken holds.
    let here : (c.else-may_begin_segments.self ≡ c.args.self.now) × (c.else-may_begin_segments.room ≡ c.args.room.now) = elim c.else-may_begin_segments.branch [
      | else-may_begin_segments-via-else-may_begin_segments w ↦ (w.self-is, w.room-is)
      | else-may_begin_segments-via-then-may_begin_segments+in-None-1 w ↦ let none = w.take_many.ensures.none (search rules) in (w.self-is ∙ none.0, w.room-is ∙ none.1)
    ] in
    refuses-one c.unwrap-c.result _ c.utf8.text (sym c.chars-chars.ensures.rest ∙ rw c.unwrap-c.ensures at c.next.ensures.steps.0) taken.usable (rw c.in-Err.is at (rw (here.0, here.1) at c.take_char.ensures.takes f x start taken holds))

pub take_many-requires-clause-known : goal.take_many-requires-clause-known
take_many-requires-clause-known g c =
    let begins = chars_past_char c.args.text.now _ c.unwrap-c.result c.utf8.text (sym c.chars-chars.ensures.rest ∙ rw c.unwrap-c.ensures at c.next.ensures.steps.0) in
    IfSome_then c.known_entry-known.result c.known_entry-known.ensures (λ entry known.
    record { properties = known.properties; is_first = record { first = c.unwrap-c.result; others = _; begins = begins; is_entry = known.is_entry } })
