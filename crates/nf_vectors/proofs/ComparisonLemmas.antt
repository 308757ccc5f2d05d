-- Whether the sound front of a text leaves the Stream-Safe Text Format.
use Rattle.nf_vectors.proofs.Common.{arith, ◌≡◌, ℕ, ◌+◌, ◌≤◌, ◌<◌, Bool, true, false, List, [], ◌∷◌, ◌++◌, length, take, drop, Option, Some, None, Result, Ok, refl, get_or, list_all, take_all, take_more, take-append-drop, Properties, is_sound, Place, place_from, leaves_format}
use Rattle.nf_filter.specs.declared.fault.Fault.{Fault}
use Rattle.nf_filter.specs.Checks.{text_decision}
use Rattle.nf_filter.specs.Laws.Undecided.{no_stop}
use Rattle.nf_filter.proofs.ChecksLemmas.{all_sound-push, stop_place, stop_row}

-- what a text decides is a place
is_place : Option (Result (Option Place) Fault) → Bool
is_place (Some (Ok (Some at))) = true
is_place _ = false

module _ (p : Properties) (x : List ℕ) where
  leaves-by : leaves_format p x ≡ is_place (text_decision p 0 x)
  unfolding text_decision is_place
  leaves-by = grind arith

  pub leaves-none : (i : ℕ) → length x ≤ i → list_all (is_sound p) (take i x) ≡ true → place_from 0 p (take i x) ≡ None → false ≡ leaves_format p x
  unfolding is_place
  leaves-none i end sound none =
      let all = take_all i x end in
      rw (leaves-by, no_stop p 0 x (rw all at sound) (rw all at none)) refl

  -- a character after sound ones
  module _ (i c : ℕ) (within : i < length x) (is : c ≡ get_or x i c) (sound : list_all (is_sound p) (take i x) ≡ true) where
    cut : x ≡ (take i x ++ c ∷ []) ++ drop (i + 1) x
    cut = grind (arith, take_more, take-append-drop)

    pub leaves-at : is_sound p c ≡ true → (at : Place) → place_from 0 p (take i x ++ c ∷ []) ≡ Some at → true ≡ leaves_format p x
    unfolding is_place
    leaves-at next at found =
        rw (leaves-by, cut, stop_place p 0 (take i x ++ c ∷ []) (drop (i + 1) x) at (all_sound-push p (take i x) c sound next) found) refl

    pub leaves-unsound : is_sound p c ≡ false → place_from 0 p (take i x) ≡ None → false ≡ leaves_format p x
    unfolding is_place
    leaves-unsound next none =
        rw (leaves-by, cut, stop_row p 0 (take i x) c (drop (i + 1) x) sound none next) refl
