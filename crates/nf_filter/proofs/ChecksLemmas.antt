-- What a check decides, character by character.
use Rattle.nf_filter.proofs.Common.{Checker, HasChecked, place_of, ◌≡◌, ℕ, ◌+◌, true, false, List, [], ◌∷◌, ◌++◌, length, Some, None, Ok, Err, refl, append_assoc, append-nil, encode_utf8_all, list_all, list_all-append, Properties, is_sound, Place, place_from, Row, sound_front, text_decision}
use Rattle.nf_forms.specs.Laws.Last.{by_last}
use Rattle.nf_safe.specs.Checker.{StandsAfter}
use Rattle.nf_safe.specs.Laws.Place.{place_from-stays}
use Rattle.nf_filter.proofs.PolicyLemmas.{take_while-append, take_while-stop}

module _ (p : Properties) where
  pub all_sound-push : (x : List ℕ) (c : ℕ) → list_all (is_sound p) x ≡ true → is_sound p c ≡ true → list_all (is_sound p) (x ++ c ∷ []) ≡ true
  all_sound-push x c all sound = rw (list_all-append (is_sound p) x (c ∷ []), all, sound)

  module _ (base : ℕ) where
    pub stop_place : (x y : List ℕ) (at : Place) → list_all (is_sound p) x ≡ true → place_from base p x ≡ Some at → text_decision p base (x ++ y) ≡ Some (Ok (Some at))
    unfolding text_decision
    stop_place x y at all found =
        let stays : place_from base p (x ++ sound_front p y) ≡ Some at =
        by_last (λ z. place_from base p (x ++ z) ≡ Some at) (rw (append-nil x) found) (λ z c before. rw (← append_assoc x z (c ∷ [])) (place_from-stays p base (x ++ z) c at before)) (sound_front p y) in
        rw (take_while-append (is_sound p) x y all, stays)

    pub stop_row : (x : List ℕ) (c : ℕ) (y : List ℕ) → list_all (is_sound p) x ≡ true → place_from base p x ≡ None → is_sound p c ≡ false
        → text_decision p base ((x ++ c ∷ []) ++ y) ≡ Some (Err (Row (base + length (encode_utf8_all x))))
    unfolding text_decision
    stop_row x c y all none unsound = rw (take_while-stop (is_sound p) x c y all unsound, none, list_all-append (is_sound p) (x ++ c ∷ []) y, list_all-append (is_sound p) x (c ∷ []), all, unsound)

-- a checker that begins anew
pub new_checked : {p : Properties} {checker : Checker} {base : ℕ} → StandsAfter base p checker [] → place_of checker ≡ None → HasChecked p checker base []
new_checked stands none = record { stands = stands; none = none; sound = refl }
