-- What a call of a filter tells of a text, by what it wrote to a sink that compares.
use Rattle.nf_normalized.proofs.Common.{take-append-drop, append_assoc, append-nil, common_steps, bytes_eq-Decides, ◌≡◌, ℕ, ◌+◌, ◌<◌, ◌^◌, Bool, true, false, List, ◌++◌, length, take, sym, ap, ◌∙◌, arith, length-append, Some, None, is_some, option_map, encode_utf8_all, encodes-append, Result, Ok, Err, result_err, take_at, encodes_same, length-le-encodes, take-length, ucd, Form, safe_form, IsText, Ending, Whole, Bad, CutOff, text_of, EndsAs, Place, place_at, Fault, Write, Row, fault_in, answer_at_end, bad_byte, whole_or, IsAmong, Comparing, same, left, PlaceFits, IsAfter, under, made_of, common, change_at, form_value, form_decision, IsOfPiece}
use Rattle.nf_filter.specs.declared.tally.Tally.{Tally}
use Rattle.nf_filter.specs.Faults.{IsOfFeeding}
use Rattle.nf_filter.specs.Laws.Soundness.{AreSound}
use Rattle.nf_filter.proofs.SoundnessLemmas.{not_a_fault}
use Rattle.nf_normalized.proofs.BytesLemmas.{Known, Shares, departs, text_of-encodes}
use Rattle.nf_filter.proofs.CommonLemmas.{common-front}
use Rattle.nf_filter.proofs.ComparingLemmas.{Wrote, gave, other_written, unfailed, all_written}
use Rattle.nf_normalized.proofs.CheckerLemmas.{written, written_is, is_text, after, alike}

-- a fault is of some kinds where it cannot be of none
pub stable : (kinds : List ℕ) (fault : Fault) → ((IsAmong kinds fault → ⊥) → ⊥) → IsAmong kinds fault
stable kinds fault not_out = grind arith

-- a filter that took `bytes`, so many characters up to this offset, and wrote all of them but `held`, wrote on by the call r, with which
-- `all` is taken, of what was then due; it tells more where the sink did not fail
pub record Call (assigned : Bool) (f : Form) (base : ℕ) (held bytes all due : List ℕ) (old new : Comparing) {T : Type 0} (r : Result T Fault) (chars offset : ℕ) (Tells : Type 0) : Type 0 where
  pub known : Known
  pub split : bytes ≡ written assigned f bytes ++ held
  pub expects : all ≡ written assigned f bytes ++ (old.first.now ++ old.second.now)
  pub wrote : Wrote old new (written assigned f bytes) due r
  pub chars_are : chars ≡ length (text_of bytes)
  pub offset_is : offset ≡ base + length bytes
  pub answer : (r ≡ Err Write → ⊥) → Tells

module _ {assigned : Bool} {f : Form} {base : ℕ} {held bytes all due : List ℕ} {old new : Comparing} {T : Type 0} {r : Result T Fault} {chars offset : ℕ} {Tells : Type 0}
    (call : Call assigned f base held bytes all due old new r chars offset Tells) where
  chars_held : chars ≡ length (made_of assigned f (text_of bytes)) + length (text_of held)
  chars_held = grind (arith, call.chars_are, call.split, after call.known assigned f bytes held, length-append)

  bytes_held : offset ≡ base + (length (written assigned f bytes) + length held)
  bytes_held = grind (arith, call.offset_is, call.split, length-append)

  pub read : all ≡ (written assigned f bytes ++ same new) ++ left new
  read = grind (arith, call.expects, take-append-drop, gave call.wrote, append_assoc)

  pub room : base + length all < 2 ^ 64 → PlaceFits held (same new) chars offset
  room fits =
      grind (arith, chars_held, bytes_held, fits, ap length read, length-le-encodes, ap length (call.known.split.split (same new)), length-append, written_is)

  pub told : is_some new.other ≡ false → Tells
  told none = call.answer (unfailed call.wrote none)

  -- a text is due, and a place is told after what is as expected
  module _ (s : List ℕ) (scalars : IsText s) (is : due ≡ encode_utf8_all s) (place : Place) (at : IsAfter held (same new) chars offset place) where
    -- it stands after what the text shares with what was read
    placed : Shares (text_of all) s (text_of (written assigned f bytes ++ same new)) → place_at base (text_of all) (common (text_of all) s) ≡ place
    placed shares = grind (arith, shares, after call.known assigned f bytes (same new), chars_held, bytes_held, at, length-append, encodes-append, written_is)

    pub differs : is_some new.other ≡ true → (¬ (s ≡ take (length s) (text_of all))) × (place_at base (text_of all) (common (text_of all) s) ≡ place)
    differs is_other =
        let o = other_written call.wrote is_other in
        let d = rw (← read) at (departs call.known _ (left new) o.0 o.1 o.2 s scalars (sym is ∙ o.3)) in
        (d.other, placed d.shares)

    -- the text is a front of what was read
    pub placed_front : is_some new.other ≡ false → place_at base (text_of all) (common (text_of all) s) ≡ place
    placed_front none =
        placed (grind (arith, read, call.known.back.text s (left new) scalars, text_of-encodes call.known s scalars, is, all_written call.wrote none, common-front, take_at))

-- ---- a piece was fed

module _ {assigned : Bool} {f : Form} {base : ℕ} {held bytes all : List ℕ} {old new : Comparing} {r : Result (Unit {0}) Fault} {chars offset : ℕ}
    (call : Call assigned f base held bytes all (written assigned f all) old new r chars offset (result_err r ≡ fault_in (under assigned) ucd base all)) where
  pub other_decides : is_some new.other ≡ true → (place : Place) → IsAfter held (same new) chars offset place → Some (Ok (Some place)) ≡ form_decision assigned f base all
  unfolding form_decision
  other_decides is place at = grind (arith, bytes_eq-Decides, differs call _ (is_text call.known assigned f all) (written_is assigned f all) place at is)

  module _ (none : is_some new.other ≡ false) where
    pub piece_kinds : AreSound ucd → (fault : Fault) → IsOfFeeding fault → r ≡ Err fault → IsOfPiece fault
    piece_kinds sound Write may is = absurd (unfailed call.wrote none is)
    piece_kinds sound (Row at) may is = absurd (not_a_fault ucd sound base at (under assigned) all (rw is at (sym (told call none))))
    piece_kinds sound _ may is = grind arith

    pub split_now : all ≡ written assigned f all ++ left new
    split_now = grind (arith, read call, all_written call.wrote none)

    pub alike_decides : option_map Err (result_err r) ≡ form_decision assigned f base all
    alike_decides = grind (arith, alike call.known assigned f all base (left new) split_now, told call none)

-- ---- the end

-- the whole form is due, or, where a character is cut, no more than is settled
pub record Due (assigned : Bool) (f : Form) (base : ℕ) (bytes due : List ℕ) (ending : Ending) : Type 0 where
  pub good : bad_byte base ending ≡ None
  pub ends : EndsAs bytes (text_of bytes) ending
  pub is : due ≡ whole_or ending (written assigned f bytes) (encode_utf8_all (safe_form f ucd (text_of bytes)))

module _ {assigned : Bool} {f : Form} {base : ℕ} {held bytes due : List ℕ} {old new : Comparing} {r : Result Tally Fault} {chars offset : ℕ} {Tells : Type 0}
    (call : Call assigned f base held bytes bytes due old new r chars offset Tells) where
  abbrev form : List ℕ
  form = safe_form f ucd (text_of bytes)

  scalars : IsText form
  scalars = (call.known.once f).text (text_of bytes) (call.known.split.scalars bytes)

  pub other_end : is_some new.other ≡ true → (place : Place) → IsAfter held (same new) chars offset place → (ending : Ending) → Due assigned f base bytes due ending
      → Ok (Some place) ≡ answer_at_end base (form_value f base bytes) ending
  unfolding change_at
  other_end is place at Whole at_end = grind (arith, bytes_eq-Decides form (text_of bytes), take-length (text_of bytes), differs call form scalars at_end.is place at is)
  other_end is place after (CutOff at start) at_end = absurd (grind (arith, ap length (other_written call.wrote is).3, at_end.is, length-append))
  other_end is place after (Bad at start) at_end = cc

  module _ (none : is_some new.other ≡ false) where
    -- all is read, or the form is at its end before the text
    pub done_end : length (left new) ≡ 0 → {given : Tally} (tally : Tally) (ending : Ending) → Due assigned f base bytes due ending → Ok given ≡ answer_at_end base tally ending
        → Ok None ≡ answer_at_end base (form_value f base bytes) ending
    unfolding change_at
    done_end no_more tally Whole at_end e =
        grind (arith, common_steps, bytes_eq-Decides, encodes_same form (text_of bytes), at_end.ends, read call, all_written call.wrote none, at_end.is, no_more, append-nil)
    done_end no_more tally _ at_end e = cc

    pub short_end : (length (left new) ≡ 0 → ⊥) → (place : Place) → IsAfter held (same new) chars offset place → {given : Tally} (tally : Tally) (ending : Ending)
        → Due assigned f base bytes due ending → Ok given ≡ answer_at_end base tally ending → Ok (Some place) ≡ answer_at_end base (form_value f base bytes) ending
    unfolding change_at
    short_end more place after tally Whole at_end e =
        grind (arith, bytes_eq-Decides, ap length (read call), all_written call.wrote none, at_end.is, at_end.ends, length-append, more, placed_front call form scalars at_end.is place after none)
    short_end more place after tally _ at_end e = cc
