-- Where each character is sound, none is refused, and where characters that are not assigned are taken, none for that.
use Rattle.nf_filter.proofs.Common.{⊎_elim, cases_Bool, ◌≡◌, ℕ, ◌+◌, Bool, true, false, List, [], ◌∷◌, ◌++◌, length, ◌==◌, Option, Some, None, Result, Err, refl, sym, ap, ◌∙◌, option_map, if◌then◌else◌, result_err, list_all, Properties, Form, stream_safe, is_sound, Ending, Bad, Cut, text_of, ending_of, Place, place_from, Fault, BadByte, CutShort, Read, Row, TooLong, Unassigned, Write, Policy, Tally, SinkState, SourceState, is_usable, answer_at_end, bad_byte, bad_under, first_fault, fault_in, tally_of, answer_or, end_under, end_of, allowed, len_under, text_under, whole_under, Feeds, Drives, Surveys, sound_front, place_or_fault, decided_or, text_decision, check_decision, AreSound}
use Rattle.nf_filter.specs.Kinds.{row, unassigned, IsAmong}
use Rattle.nf_filter.proofs.PolicyLemmas.{first_fault-is}

-- a text does not tell it, where what stands after it does not
abbrev TellsNot : Fault → Bool → Properties → Type 0
TellsNot refusal assigned p = (place : List ℕ → ℕ) (x : List ℕ) (other : Option Fault) → ¬ (other ≡ Some refusal) → ¬ (first_fault assigned p place x other ≡ Some refusal)

or_else : {fault refusal : Fault} (b : Bool) {other : Option Fault} → ¬ (fault ≡ refusal) → ¬ (other ≡ Some refusal) → ¬ ((if b then other else Some fault) ≡ Some refusal)
or_else true apart not e = not e
or_else false apart not e = apart cc

-- neither the end nor a bad byte refuses a character
module _ (refusal : Fault) (is : IsAmong (row ∷ unassigned ∷ []) refusal) where
  apart : (fault : Fault) → fault ≡ refusal → IsAmong (row ∷ unassigned ∷ []) fault
  apart fault same = rw same is

  pub not_at_end : {T : Type 0} (base : ℕ) (value : T) (e : Ending) → ¬ (answer_at_end base value e ≡ Err refusal)
  not_at_end base value (Cut at start) e = apart (CutShort (base + at) (base + start)) cc
  not_at_end base value _ e = cc

  not_bad_byte : (base : ℕ) (e : Ending) → ¬ (bad_byte base e ≡ Some refusal)
  not_bad_byte base (Bad at start) e = apart (BadByte (base + at) (base + start)) cc
  not_bad_byte base _ e = cc

  -- nor do bytes, where no text does
  module _ (p : Properties) (base : ℕ) (policy : Policy) (not_in : TellsNot refusal policy.assigned p) where
    not_in_bytes : (bytes : List ℕ) → ¬ (fault_in policy p base bytes ≡ Some refusal)
    unfolding fault_in
    not_in_bytes bytes = not_in (λ front. base + len_under policy.replace bytes front) (text_under policy.replace bytes) (bad_under policy.replace base bytes) (not_bad policy.replace)
      where
        not_bad : (replace : Bool) → ¬ (bad_under replace base bytes ≡ Some refusal)
        not_bad false e = not_bad_byte base (ending_of bytes) e
        not_bad true e = cc

    pub not_in_all : (bytes : List ℕ) → ¬ (end_of policy p base bytes ≡ Err refusal)
    unfolding end_of
    not_in_all bytes = by_replace policy.replace
      where
        told : (o : Option Fault) (tally : Tally) → ¬ (o ≡ Some refusal) → ¬ (answer_or o tally ≡ Err refusal)
        told None tally not e = cc
        told (Some fault) tally not e = not cc

        by_replace : (replace : Bool) → ¬ (end_under replace policy.assigned p base bytes ≡ Err refusal)
        by_replace false e = not_at_end base (tally_of false p bytes) (ending_of bytes) e
        by_replace true e = told _ (tally_of true p bytes) (not_in (λ front. base + len_under true bytes front) (whole_under true bytes) None (λ e. cc)) e

    pub never_fed : {f : Form} {bytes piece : List ℕ} {old new : SinkState} {result : Result (Unit {0}) Fault} → Feeds policy f p base bytes piece old new result → ¬ (result ≡ Err refusal)
    never_fed {bytes = bytes} {piece} feeds refused = not_in_bytes (bytes ++ piece) (sym (feeds.answer (λ e. apart Write cc)) ∙ ap result_err refused)

    pub never_driven : {most : ℕ} {f : Form} {bytes : List ℕ} {source left : SourceState} {old new : SinkState} {result : Result Tally Fault} → Drives most policy f p base bytes source left old new result
        → ¬ (result ≡ Err refusal)
    never_driven {left = left} drives refused = ⊎_elim (λ end. not_in_all _ (sym (drives.finished end (λ e. apart Write cc)) ∙ refused))
        (λ going. not_in_bytes _ (sym (drives.stopped going (λ e. apart Write cc) (λ e. apart Read cc) (λ e. apart TooLong cc)).1 ∙ ap result_err refused)) (cases_Bool left.is_at_end)

pub unmapped : {T : Type 0} (fault : Fault) (o : Option Fault) → option_map (λ g. let r : Result T Fault = Err g in r) o ≡ Some (Err fault) → o ≡ Some fault
unmapped fault (Some other) e = cc
unmapped fault None e = cc

module _ (p : Properties) (sound : AreSound p) where
  pub all_sound : (x : List ℕ) → list_all (is_sound p) x ≡ true
  all_sound [] = refl
  all_sound (c ∷ x) = rw (sound c) (all_sound x)

  pub usable_is : (x : List ℕ) → is_usable p x ≡ true
  unfolding is_usable
  usable_is x = all_sound (stream_safe p x)

module _ (p : Properties) (sound : AreSound p) (base at : ℕ) where
  -- nor does a text
  pub not_in_text : (assigned : Bool) → TellsNot (Row at) assigned p
  not_in_text assigned place x other not e = or_else (length (allowed assigned p x) == length x) (λ e. cc) not (rw (first_fault-is p assigned place x other, usable_is p sound (allowed assigned p x)) at e)

  pub not_a_fault : (policy : Policy) (bytes : List ℕ) → ¬ (fault_in policy p base bytes ≡ Some (Row at))
  not_a_fault policy = not_in_bytes (Row at) tt p base policy (not_in_text policy.assigned)

  pub not_in_end : (policy : Policy) (bytes : List ℕ) → ¬ (end_of policy p base bytes ≡ Err (Row at))
  not_in_end policy = not_in_all (Row at) tt p base policy (not_in_text policy.assigned)

  pub not_fed : (policy : Policy) (f : Form) (bytes piece : List ℕ) (old new : SinkState) (result : Result (Unit {0}) Fault) → Feeds policy f p base bytes piece old new result → ¬ (result ≡ Err (Row at))
  not_fed policy f bytes piece old new result feeds = never_fed (Row at) tt p base policy (not_in_text policy.assigned) feeds

  pub not_checked : (bytes : List ℕ) → ¬ (check_decision p base bytes ≡ Some (Err (Row at)))
  unfolding check_decision text_decision
  not_checked bytes e = not_bad_byte (Row at) tt base (ending_of bytes) (by_place (place_from base p (sound_front p (text_of bytes))) (bad_byte base (ending_of bytes)) (rw (all_sound p sound (text_of bytes)) at e))
    where
      by_place : (place : Option Place) (o : Option Fault) → decided_or (place_or_fault place None) o ≡ Some (Err (Row at)) → o ≡ Some (Row at)
      by_place None (Some fault) e = cc
      by_place _ _ e = cc

-- a survey whose decision is none
pub not_surveyed : {T : Type 0} {most base at : ℕ} {decision : List ℕ → Option (Result T Fault)} {value : List ℕ → T} {source left : SourceState} {result : Result T Fault}
    → ((bytes : List ℕ) → ¬ (decision bytes ≡ Some (Err (Row at)))) → Surveys most base decision value source left result → ¬ (result ≡ Err (Row at))
not_surveyed {base = base} {at} {value = value} {left = left} undecided surveys refused = ⊎_elim (λ end. not_at_end (Row at) tt base (value surveys.before) (ending_of surveys.before) (sym (surveys.ended end).1 ∙ refused))
    (λ going. undecided (surveys.before ++ surveys.last) (surveys.decided going (λ e. cc) (λ e. cc) ∙ ap Some refused)) (cases_Bool left.is_at_end)

-- where characters that are not assigned are taken, no text is refused for that
pub not_unassigned : (p : Properties) (at : ℕ) (assigned : Bool) → assigned ≡ false → TellsNot (Unassigned at) assigned p
not_unassigned p at true all place x other not e = cc
not_unassigned p at false all place x other not e = or_else (is_usable p x) (λ e. cc) not e
