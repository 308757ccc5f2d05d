-- Lines, and what stands after them.
use Rattle.nf_lines.proofs.Common.{Result, Ok, Err, ◌≡◌, ℕ, ◌+◌, ◌==◌, Bool, true, false, List, [], ◌∷◌, ◌++◌, length, Option, Some, None, inl, inr, encode_utf8_all, refl, ◌∙◌, arith, append_assoc, append-nil, length-append, result_err, cases_Bool, encodes-append, Form, Nfc, Ending, Whole, text_of, ending_of, decoded_of, replaced, replaced_whole, line_feed, Fault, Policy, Tally, text_under-none, answer_at_end, first_fault, fault_in, IsLeft, answer_or, end_under, end_of, final_utf8, allowed, text_under, whole_under, settled_utf8, EndsInLineFeed, end_fault, StandAlone}
use Rattle.std.specs.Str.{chars}
use Rattle.std.specs.Str.Lossy.{utf8_valid_len}
use Rattle.std.proofs.lemmas.Bool.Decides.{nat_tests}
use Rattle.nf_forms.specs.Properties.{Properties}
use Rattle.nf_forms.specs.Order.{by_class}
use Rattle.nf_forms.specs.Front.{front}
use Rattle.nf_forms.specs.Runs.{has_starter}
use Rattle.nf_forms.specs.StreamSafe.{stream_safe}
use Rattle.nf_forms.specs.SafeForm.{safe_form}
use Rattle.nf_forms.specs.Closing.{IsClosing}
use Rattle.nf_forms.specs.Boundary.{IsOwnBoundary}
use Rattle.nf_forms.specs.Laws.Closing.{safe_form-segments}
use Rattle.nf_forms.specs.Laws.Front.{front-append_some, front-at, front-none}
use Rattle.nf_forms.specs.Laws.Boundary.{safe_form-push}
use Rattle.nf_normalizer.specs.Laws.Settled.{usable-all}
use Rattle.nf_filter.specs.Laws.Soundness.{AreSound}
use Rattle.nf_filter.specs.Settled.{is_usable, settled}
use Rattle.nf_filter.proofs.PolicyLemmas.{allowed-append, first_fault-is, first_fault-none, taken_whole, taken as is_taken-from}
use Rattle.nf_filter.proofs.AgainLemmas.{final-whole}
use Rattle.nf_utf8.specs.Laws.{ReadsLongestText}
use Rattle.nf_utf8.proofs.LeftLemmas.{IsLeft-more}
use Rattle.nf_filter.proofs.PieceLemmas.{left-text, left-place, left-bad, left-end, left-whole}
use Rattle.nf_filter.proofs.SoundnessLemmas.{all_sound, usable_is}
use Rattle.nf_lines.proofs.WholeLines.{line_encodes, ReadsLines, reads_lines}

-- one length more on both sides
eqb_past : (n a b : ℕ) → (n + a == n + b) ≡ (a == b)
eqb_past n a b = grind (arith, nat_tests)

-- the fault at the end, where a character that it cuts is one
strict_end : (base : ℕ) (tally : Tally) (e : Ending) → result_err (answer_at_end base tally e) ≡ result_err (answer_at_end base (tt {0}) e)
strict_end base tally Whole = refl
strict_end base tally _ = refl

-- what is told where there is no fault
told : (r : Result Tally Fault) → result_err r ≡ None → (tally : Tally) × (r ≡ Ok tally)
told (Ok tally) none = (tally, refl)
told (Err fault) none = cc

answered : (o : Option Fault) (tally : Tally) → result_err (answer_or o tally) ≡ o
answered None tally = refl
answered (Some fault) tally = refl

-- no bytes give nothing
whole_under-none : (r : Bool) → whole_under r [] ≡ []
unfolding text_of ending_of replaced replaced_whole decoded_of chars utf8_valid_len
whole_under-none false = refl
whole_under-none true = refl

-- where the end is no fault the whole form is written
final_whole : (f : Form) (p : Properties) (policy : Policy) (base : ℕ) (bytes : List ℕ) → end_fault policy p base bytes ≡ None
    → final_utf8 policy f p bytes ≡ encode_utf8_all (safe_form f p (whole_under policy.replace bytes))
final_whole f p policy base bytes none = final-whole p base bytes _ f policy (told (end_of policy p base bytes) none).1

pub end_nothing : (policy : Policy) (p : Properties) (base : ℕ) → end_fault policy p base [] ≡ None
unfolding end_of text_of ending_of replaced replaced_whole decoded_of chars utf8_valid_len is_usable
end_nothing policy p base = by policy.replace policy.assigned
  where
    by : (r a : Bool) → result_err (end_under r a p base []) ≡ None
    by false a = refl
    by true false = refl
    by true true = refl

pub final-none : (policy : Policy) (f : Form) (p : Properties) → final_utf8 policy f p [] ≡ []
unfolding safe_form by_class
final-none policy f p = rw (final_whole f p policy 0 [] (end_nothing policy p 0), whole_under-none) (by f)
  where
    by : (f : Form) → encode_utf8_all (safe_form f p []) ≡ []
    by Nfc = refl
    by _ = refl

module _ (p : Properties) (sound : AreSound p) where
  -- without a fault all was taken
  taken_all : (a : Bool) (place : List ℕ → ℕ) (x : List ℕ) (other : Option Fault) → first_fault a p place x other ≡ None → (allowed a p x ≡ x) × (other ≡ None)
  taken_all a place x other none =
      let all = (taken_whole p a x (is_taken-from p a place x other none)).1 in
      (all, rw (first_fault-none p a place x other (usable_is p sound x) all) at none)

  -- after a text that is taken the fault is that of the rest
  fault_after : (a : Bool) (x y : List ℕ) (place after : List ℕ → ℕ) (other : Option Fault) → allowed a p x ≡ x → ((z : List ℕ) → place (x ++ z) ≡ after z)
      → first_fault a p place (x ++ y) other ≡ first_fault a p after y other
  fault_after a x y place after other all places = simp (first_fault-is p, usable_is p sound, allowed-append p a x y all, length-append, eqb_past, places)

  module _ (f : Form) where
    settled_is : (policy : Policy) (bytes : List ℕ) → settled_utf8 policy f p bytes ≡ encode_utf8_all (front p (safe_form f p (allowed policy.assigned p (text_under policy.replace bytes))))
    unfolding settled_utf8 settled
    settled_is policy bytes = simp (usable-all p, usable_is p sound)

    -- ---- lines of which nothing is left
    module _ (own_boundary : IsOwnBoundary p f line_feed) (closing : IsClosing p f line_feed) (policy : Policy) (base : ℕ) (lines rest : List ℕ) (read : ReadsLines policy.replace lines)
        (all : allowed policy.assigned p (read.before ++ line_feed ∷ []) ≡ read.before ++ line_feed ∷ []) where
      abbrev text : List ℕ
      text = read.before ++ line_feed ∷ []

      abbrev head : List ℕ
      head = safe_form f p text

      abbrev tail : List ℕ
      tail = safe_form f p (allowed policy.assigned p (text_under policy.replace rest))

      end_after : (more : List ℕ) → end_fault policy p base (lines ++ more) ≡ end_fault policy p (base + length lines) more
      unfolding end_of
      end_after more = by policy.replace (IsLeft-more more read.left)
        where
          by : (b : Bool) → IsLeft b (lines ++ more) text (length lines) more → result_err (end_under b policy.assigned p base (lines ++ more)) ≡ result_err (end_under b policy.assigned p (base + length lines) more)
          by false left = simp (strict_end, left-end left refl base)
          by true left = simp (answered, left-whole left) (fault_after policy.assigned text (whole_under true more) _ _ None all (λ y. omega (arith, left-place left y)))

      left : IsLeft policy.replace (lines ++ rest) text (length lines) rest
      left = IsLeft-more rest read.left

      alone_whole : end_fault policy p base lines ≡ None
      alone_whole = rw append-nil at (end_after [] ∙ end_nothing policy p (base + length lines))

      lines_form : final_utf8 policy f p lines ≡ encode_utf8_all head
      lines_form = rw (final_whole f p policy base lines alone_whole, left-whole read.left, whole_under-none, append-nil)

      pub alone : StandAlone policy f p base lines rest
      unfolding fault_in
      alone = record {
        whole = alone_whole;
        fault = rw (left-text left, left-bad left base) (fault_after policy.assigned text (text_under policy.replace rest) _ _ _ all (λ y. omega (arith, left-place left y)));
        end = end_after rest;
        final = λ none. rw (final_whole f p policy base (lines ++ rest) (end_after rest ∙ none), left-whole left, safe_form-segments p f line_feed closing read.before, encodes-append, lines_form, final_whole f p policy (base + length lines) rest none);
        settled = rw (lines_form, settled_is policy (lines ++ rest), settled_is policy rest, left-text left, allowed-append p policy.assigned text _ all, safe_form-segments p f line_feed closing read.before) (elim (cases_Bool (has_starter p tail)) [
          | inl some ↦ inl (rw (front-append_some p head tail some, encodes-append))
          | inr none ↦
              let before : List ℕ = safe_form f p read.before in
              let pushed : head ≡ before ++ line_feed ∷ [] = safe_form-push p f line_feed own_boundary read.before (all_sound p sound (stream_safe p read.before)) in
              inr (rw (pushed, append_assoc before (line_feed ∷ []) tail, front-at p before line_feed tail own_boundary.starts none, front-none p tail none, encodes-append before (line_feed ∷ []), line_encodes, append-nil))
        ]);
      }

  -- lines without a fault leave nothing
  pub lines_alone : ReadsLongestText → (f : Form) → IsOwnBoundary p f line_feed → IsClosing p f line_feed → (policy : Policy) (base : ℕ) (lines rest : List ℕ) → EndsInLineFeed lines
      → fault_in policy p base lines ≡ None → StandAlone policy f p base lines rest
  unfolding fault_in
  lines_alone longest f own_boundary closing policy base lines rest is none =
      let good = taken_all policy.assigned _ _ _ none in
      let read = reads_lines longest base policy.replace lines is good.1 in
      alone f own_boundary closing policy base lines rest read (rw (left-text read.left, text_under-none, append-nil) at good.0)
