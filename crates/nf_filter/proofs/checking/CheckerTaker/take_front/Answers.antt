use Rattle.nf_filter.proofs.Common.{◌≡◌, ℕ, List, [], ◌∷◌, ◌++◌, is_some, None, refl, sym, ap, ◌∙◌, and_from, list_all-append, true_from_ne_false, Properties, is_sound, place_of, HasChecked, HasTakenFront, text_decision, Checker}
use Rattle.nf_safe.specs.Checker.{HasSeen, offset_of}
use Rattle.nf_filter.proofs.TakingLemmas.{takes-char, decides-char}
use Rattle.nf_filter.proofs.ChecksLemmas.{all_sound-push, stop_place, stop_row}
use Rattle.nf_filter.proofs.checking.CheckerTaker.take_front.Goals as goal

-- what is known of it
counted : {p : Properties} {old new : Checker} {base : ℕ} {x text rest : List ℕ} → HasChecked p old base x → place_of new ≡ None → HasSeen base p new x text rest → HasTakenFront (HasChecked p new base) x text rest
counted {p} {x = x} before none seen = record {
  front = seen.front;
  is_front = seen.is_front;
  taken = record { stands = seen.stands; none = none; sound = list_all-append (is_sound p) x seen.front ∙ and_from _ _ before.sound seen.sound };
}

pub returns-in-Ok-None-clause-takes : goal.returns-in-Ok-None-clause-takes
returns-in-Ok-None-clause-takes g c = λ base x before here.
    let p = g.R.Rows.properties c.args.rows.now in
    let front = c.see_counted-rest in
    let known = counted before front.ensures.none (front.ensures.sees base x before.stands) in
    let see = c.in-Ok-None.ensures in
    takes-char known _ _ front.utf8 (cc (c.in-Some.ensures.steps.0))
    record { stands = see.stands base (x ++ known.front) known.taken.stands; none = sym see.place ∙ c.in-Ok-None.field-0-is; sound = all_sound-push p (x ++ known.front) c.in-Some.c known.taken.sound (true_from_ne_false _ (λ unsound. cc ((see.refuses (ap is_some front.ensures.none)).1 unsound))) }

pub returns-in-Ok-Some-clause-takes : goal.returns-in-Ok-Some-clause-takes
returns-in-Ok-Some-clause-takes g c = λ base x before here.
    let p = g.R.Rows.properties c.args.rows.now in
    let front = c.see_counted-rest in
    let known = counted before front.ensures.none (front.ensures.sees base x before.stands) in
    let seen = x ++ known.front in
    let see = c.in-Ok-Some.ensures in
    decides-char known _ _ front.utf8 (sym c.chars-chars.ensures.rest ∙ c.in-Some.ensures.steps.0) (text_decision p base)
    (λ more. stop_place p base (seen ++ c.in-Some.c ∷ []) more c.in-Ok-Some.place (all_sound-push p seen c.in-Some.c known.taken.sound (true_from_ne_false _ (λ unsound. cc ((see.refuses (ap is_some front.ensures.none)).1 unsound))))
    (sym (see.stands base seen known.taken.stands).place ∙ sym see.place ∙ c.in-Ok-Some.field-0-is))

pub returns-in-Err-clause-takes : goal.returns-in-Err-clause-takes
returns-in-Err-clause-takes g c = λ base x before here.
    let p = g.R.Rows.properties c.args.rows.now in
    let front = c.see_counted-rest in
    let known = counted before front.ensures.none (front.ensures.sees base x before.stands) in
    let seen = x ++ known.front in
    let see = c.in-Err.ensures in
    let at = c.offset.ensures ∙ ap offset_of see.refused.1 ∙ known.taken.stands.offset (ap is_some known.taken.none) in
    decides-char known _ _ front.utf8 (sym c.chars-chars.ensures.rest ∙ c.in-Some.ensures.steps.0) (text_decision p base)
    (λ more. rw at (stop_row p base seen c.in-Some.c more known.taken.sound (cc (known.taken.stands.place, known.taken.none)) ((see.refuses (ap is_some front.ensures.none)).0 refl)))
