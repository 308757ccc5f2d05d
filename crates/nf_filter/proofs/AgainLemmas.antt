-- What a filter wrote to the end is a text that is stream-safe and its own form, so that a second one changes nothing.
use Rattle.nf_filter.proofs.Common.{◌≡◌, ℕ, Bool, true, false, List, [], ◌∷◌, ◌++◌, Option, Some, None, Result, Ok, Err, refl, sym, ap, ◌∙◌, append-nil, eq-eqb, IsTrue, OnOk, encode_utf8_all, inl, all_scalars, Properties, Form, is_sound, stream_safe, safe_form, ChangesOnce, IsSoundText, in_format-unchanged, IsText, Ending, Whole, Cut, text_of, ending_of, replaced, replaced_whole, ReadsLongestText, ReadsBack, ReplacesSubparts, Fault, Policy, Tally, as_is, allowed, text_under, whole_under, is_usable, settled_utf8, answer_at_end, bad_under, fault_in, tally_of, answer_or, end_under, end_of, whole_or, final_under, final_utf8, SinkState, SourceState, Drives, DrivesToEnd, Converts, settled_utf8-none, text_under-none, arith, nat_tests, length, IsLeft, ◌+◌, normal_form, cut-some, sound-source, stream_safe-cut, stream_safe-in_format, len_under, first_fault, is_taken}
use Rattle.std.proofs.str.Laws.{scalars-append}
use Rattle.std.proofs.Math.Nat.{sub_self}
use Rattle.std.proofs.Math.Utf8.{scalar}
use Rattle.nf_filter.specs.Again.{TakesAll, nothing_put, StaysAsItIs, AddsWhatStays, DrivesOnce, FinishedStays}
use Rattle.nf_filter.proofs.PolicyLemmas.{first_fault-none, taken, taken_whole}
use Rattle.nf_filter.proofs.WholeLemmas.{Converts-all}
use Rattle.nf_filter.proofs.ReadingLemmas.{text_of-none, ending_of-none}
use Rattle.std.proofs.lemmas.Str.{chars-encodes}
use Rattle.nf_utf8.proofs.LeftLemmas.{IsLeft-text}
use Rattle.nf_filter.proofs.PieceLemmas.{left-text, left-whole, begun-all}
use Rattle.nf_filter.specs.Joined.{JoinsPieces}

-- the end is no fault
pub answered : {A : Type 0} (base : ℕ) (value told : A) (ending : Ending) → answer_at_end base value ending ≡ Ok told → (settled whole : List ℕ) → whole_or ending settled whole ≡ whole
answered base value told (Cut at start) e settled whole = cc
answered base value told _ e settled whole = refl

pub none_told : {A : Type 0} (fault : Option Fault) (value told : A) → answer_or fault value ≡ Ok told → fault ≡ None
none_told None value told e = refl
none_told (Some fault) value told e = cc

module _ (p : Properties) where
  -- where the end is no fault, the whole form was written
  module _ (base : ℕ) (bytes : List ℕ) (tally : Tally) where
    pub final-whole : (f : Form) (policy : Policy) → end_of policy p base bytes ≡ Ok tally → final_utf8 policy f p bytes ≡ encode_utf8_all (safe_form f p (whole_under policy.replace bytes))
    unfolding final_utf8 end_of
    final-whole f policy end = next policy.replace end _ _
      where
        next : (replace : Bool) → end_under replace policy.assigned p base bytes ≡ Ok tally → (settled whole : List ℕ) → final_under replace policy.assigned p bytes settled whole ≡ whole
        next false end settled whole = answered base (tally_of false p bytes) tally (ending_of bytes) end settled whole
        next true end settled whole = rw (taken p policy.assigned _ (whole_under true bytes) None (none_told _ (tally_of true p bytes) tally end))

  sound_text : ((c : ℕ) → scalar c ≡ true → is_sound p c ≡ true) → (x : List ℕ) → all_scalars x ≡ true → IsSoundText p x
  sound_text sound [] scalars = refl
  sound_text sound (c ∷ x) scalars = grind (arith, nat_tests, sound c, sound_text sound x)

module _ (back : ReadsBack) (replacing : ReplacesSubparts) where
  -- ---- the bytes of a text

  module _ (o : List ℕ) (scalars : IsText o) where
    abbrev bytes_is : List ℕ
    bytes_is = encode_utf8_all o

    text-is : text_of bytes_is ≡ o
    text-is = simp (append-nil, text_of-none) at (back.text o [] scalars)

    ending-is : ending_of bytes_is ≡ Whole
    ending-is = rw (append-nil, ending_of-none) at (back.ending o [] scalars)

    left : (replace : Bool) → IsLeft replace bytes_is o (length bytes_is) []
    left replace = rw (append-nil bytes_is, chars-encodes o scalars) at (IsLeft-text bytes_is (o, (scalars, refl)) replace [])

    text_under-is : (replace : Bool) → text_under replace bytes_is ≡ o
    text_under-is replace = rw (text_under-none replace, append-nil) at (left-text (left replace))

    whole_under-is : (replace : Bool) → whole_under replace bytes_is ≡ o
    unfolding replaced_whole
    whole_under-is false = text-is
    whole_under-is true = rw (begun-all [] tt, text_under-none true, append-nil) at (left-whole (left true))

    -- ---- which is stream-safe and its own form

    module _ (f : Form) (p : Properties) (sound : IsSoundText p o) (safe : stream_safe p o ≡ o) (form : safe_form f p o ≡ o) where
      usable-is : is_usable p o ≡ true
      unfolding is_usable
      usable-is = rw safe sound

      put-is : (replace : Bool) → tally_of replace p bytes_is ≡ nothing_put bytes_is
      put-is replace = rw (whole_under-is replace, text-is, safe, sub_self)

      module _ (policy : Policy) (takes : TakesAll policy p bytes_is) where
        all-is : allowed policy.assigned p o ≡ o
        all-is = rw text-is at takes

        ends : (replace : Bool) (base : ℕ) (settled : List ℕ)
            → (bad_under replace base bytes_is ≡ None) × (end_under replace policy.assigned p base bytes_is ≡ Ok (nothing_put bytes_is)) × (final_under replace policy.assigned p bytes_is settled bytes_is ≡ bytes_is)
        ends false base settled = (rw ending-is, rw ending-is (ap Ok (put-is false)), rw ending-is)
        ends true base settled = (
          refl,
          rw (whole_under-is true, first_fault-none p policy.assigned _ o None usable-is all-is) (ap Ok (rw (whole_under-is true) at (put-is true))),
          rw (whole_under-is true, all-is, usable-is, eq-eqb (length o) (length o) refl),
        )

      stays : StaysAsItIs f p bytes_is
      unfolding fault_in end_of final_utf8
      stays = record {
        spelled = rw text-is;
        whole = ending-is;
        in_format = rw text-is (in_format-unchanged p o sound safe);
        safe = rw text-is safe;
        form = rw text-is form;
        no_fault = λ policy base all. rw (text_under-is policy.replace) (first_fault-none p policy.assigned _ o _ usable-is (all-is policy all) ∙ (ends policy all policy.replace base []).0);
        again = λ policy all. rw (whole_under-is policy.replace, form) ((ends policy all policy.replace 0 (settled_utf8 policy f p bytes_is)).2);
        tally = λ policy base all. (ends policy all policy.replace base []).1;
      }

-- ---- what was written to the end

text-whole : ReadsLongestText → ReplacesSubparts → (replace : Bool) (bytes : List ℕ) → IsText (whole_under replace bytes)
unfolding replaced_whole
text-whole longest replacing false bytes = (longest.reads bytes).front.scalars
text-whole longest replacing true bytes = scalars-append (replaced bytes) _ (replacing.text bytes) (grind (arith, nat_tests))

pub finished_stays : ReadsLongestText → ReadsBack → ReplacesSubparts → FinishedStays
finished_stays longest back replacing = λ policy f p base bytes tally once end.
    let x = whole_under policy.replace bytes in
    let scalars = text-whole longest replacing policy.replace bytes in
    let text = once.text x scalars in
    rw (final-whole p base bytes tally f policy end)
    (stays back replacing (safe_form f p x) text f p (sound_text p once.sound (safe_form f p x) text) (once.safe x scalars) (once.form x scalars))

-- ---- of a source that was driven to its end

pub drives_to_end : {Says : List ℕ → Type 0} {most : ℕ} {policy : Policy} {f : Form} {p : Properties} {base : ℕ} {bytes : List ℕ} {source left : SourceState} {old new : SinkState} (result : Result Tally Fault)
    → ((all : List ℕ) (tally : Tally) → fault_in policy p base all ≡ None → end_of policy p base all ≡ Ok tally → Says all)
    → IsTrue left.is_at_end → Drives most policy f p base bytes source left old new result → OnOk result (DrivesToEnd policy f p bytes source left old new Says)
drives_to_end (Err fault) law end drives = tt
drives_to_end {bytes = bytes} (Ok tally) law end drives = record {
  fed = drives.fed;
  given = rw (drives.all_fed (λ e. cc), append-nil drives.fed) at drives.given;
  read_out = drives.read_out end;
  written = rw end at (drives.written (λ e. cc));
  says = law (bytes ++ drives.fed) tally (drives.no_fault (inl end)) (sym (drives.finished end (λ e. cc)));
}

module _ (f : Form) (p : Properties) (old new : SinkState) where
  pub adds_what_stays : (policy : Policy) (source left : SourceState) (result : Result Tally Fault) → OnOk result (DrivesOnce policy f p [] source left old new) → OnOk result (AddsWhatStays f p old.taken new.taken)
  adds_what_stays policy source left (Err fault) once = tt
  adds_what_stays policy source left (Ok tally) once = (once.written.out, once.written.given, rw (simp (settled_utf8-none policy f p) at once.written.after) at once.says)

-- of bytes that were all there was
pub converts_once : FinishedStays → {f : Form} {p : Properties} {old new : SinkState} {bytes : List ℕ} (result : Result Tally Fault) → ChangesOnce f p → Converts f p bytes old new result
    → OnOk result (AddsWhatStays f p old.taken new.taken)
converts_once law (Err fault) once converts = tt
converts_once law {f} {p} {bytes = bytes} (Ok tally) once converts =
    let all = Converts-all converts in
    (all.0.out, all.0.given, rw all.0.after at (law as_is f p 0 bytes tally once (sym all.1)))

module _ (p : Properties) (base : ℕ) (bytes : List ℕ) (tally : Tally) where
  taken-whole : (replace assigned : Bool) → first_fault assigned p (λ front. base + len_under replace bytes front) (text_under replace bytes) (bad_under replace base bytes) ≡ None
      → end_under replace assigned p base bytes ≡ Ok tally → is_taken assigned p (whole_under replace bytes) ≡ true
  taken-whole false assigned none end = taken p assigned _ (whole_under false bytes) _ none
  taken-whole true assigned none end = taken p assigned _ (whole_under true bytes) None (none_told _ (tally_of true p bytes) tally end)

  pub joins_pieces : (policy : Policy) (f : Form) → fault_in policy p base bytes ≡ None → end_of policy p base bytes ≡ Ok tally → JoinsPieces policy f p bytes
  unfolding fault_in end_of safe_form is_usable
  joins_pieces policy f none end =
      let x = whole_under policy.replace bytes in
      let sound : IsSoundText p (stream_safe p x) = (taken_whole p policy.assigned x (taken-whole policy.replace policy.assigned none end)).0 in
      let cut = cut-some p x (sound-source p x sound) in
      let whole : final_utf8 policy f p bytes ≡ encode_utf8_all (normal_form f p (stream_safe p x)) = final-whole p base bytes tally f policy end in
      record {
        pieces = cut.0;
        cut = cut.1;
        joined = rw (stream_safe-cut p x sound cut.0 cut.1) at whole;
        in_format = λ inside. rw (stream_safe-in_format p x inside) at whole;
      }
