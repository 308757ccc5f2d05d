-- A whole text, fed and finished.
use Rattle.std.proofs.Common.{◌≡◌, inl, inr, ℕ, ◌+◌, ◌-◌, ◌≤◌, ◌<◌, List, [], ◌++◌, length, take, Some, None, Result, Ok, Err, refl, sym, ap, ◌∙◌, subst, arith, length-take-le}
use Rattle.nf_c.proofs.Common.{FilterStandsAfter, result_err, ucd, Form, Fault, TooLong, Write, FilterState, Policy, Tally, as_is, settled_utf8, final_utf8, base_of, Fed, ends, FeedsFront, FinishesFilter, end_of}
use Rattle.std.proofs.lemmas.Slice.{take-put_mid_below}
use Rattle.std.proofs.Math.Seq.{take-length}
use borrow.Rule.Slice.PartMut.{put_mid}
use Rattle.nf_utf8.specs.Laws.{ReadsLongestText}
use Rattle.nf_utf8.specs.Reading.{text_of}
use Rattle.nf_utf8.specs.Reads.{EndsAs}
use Rattle.nf_filter.specs.Faults.{fault_in}
use Rattle.nf_filter.specs.Whole.{IsFormOf}
use Rattle.nf_filter.specs.Laws.Settled.{settled_utf8-none}
use Rattle.nf_filter.proofs.WholeLemmas.{ending_whole, final_is}
use Rattle.nf_c.specs.declared.finishing.Finished.{Finished}
use Rattle.nf_c.specs.Converts.{ConvertsText}
use Rattle.nf_c.proofs.FeedsLemmas.{take_put, length_put}

-- what ended without a fault is the form of a text
is_form : (policy : Policy) (f : Form) (input out : List ℕ) (r : Result Tally Fault) → policy ≡ as_is → ReadsLongestText → fault_in policy ucd 0 input ≡ None → r ≡ end_of policy ucd 0 input → result_err r ≡ None
    → out ≡ final_utf8 policy f ucd input → IsFormOf f ucd input out
is_form policy f input out (Err fault) plain longest none told e is = cc
is_form policy f input out (Ok tally) plain longest none told e is =
    let end = ending_whole ucd input tally (rw plain at told) (rw plain at none) in
    let reads = longest.reads input in
    (text_of input, reads.front.scalars, subst (λ e. EndsAs input (text_of input) e) end reads.end, rw plain at is ∙ final_is f ucd input end)

module _ {policy : Policy} {f : Form} {input output : List ℕ} {was now : FilterState} {fed : Fed} (base : base_of was ≡ 0) (front : FeedsFront policy f [] input output was now fed) where
  settles : take fed.written output ≡ settled_utf8 policy f ucd (take fed.read input)
  settles = sym (front.settles ∙ ap (λ l. l ++ take fed.written output) (settled_utf8-none policy f ucd))

  -- reading ended before the text's end
  pub stops_within : ¬ (fed.fault ≡ None) → (fed.fault ≡ Some Write → length (settled_utf8 policy f ucd []) + length output < length (settled_utf8 policy f ucd (take (fed.read + 1) input)))
      → ¬ (fed.fault ≡ Some TooLong) → ConvertsText policy f input output fed
  stops_within stopped full fits = record {
    read = front.read;
    written = front.written;
    fits = fits;
    how = inl (record { stopped = stopped; settles = settles; told = rw (← base) front.fault; full = λ e. omega (arith, full e, ap length (settled_utf8-none policy f ucd)) });
    form = λ _ none. absurd (stopped none);
  }

  module _ (goes : fed.fault ≡ None) (all : fed.read ≡ length input) where
    whole : take fed.read input ≡ input
    whole = ap (λ n. take n input) all ∙ take-length input

    pub stands_whole : FilterStandsAfter policy f ucd now input
    stands_whole = subst (FilterStandsAfter policy f ucd now) whole (front.stands (ap ends goes))

    module _ {part : List ℕ} {finished : Finished} (rest : length part ≡ length output - fed.written) (finishes : FinishesFilter policy f (base_of now) input part finished) where
      abbrev after : List ℕ
      after = put_mid fed.written (length output - fed.written) output part

      base_is : base_of now ≡ 0
      base_is = front.base ∙ base

      no_fault : fault_in policy ucd 0 input ≡ None
      no_fault = rw (← base_is) stands_whole.no_fault

      settled : take fed.written output ≡ settled_utf8 policy f ucd input
      settled = settles ∙ ap (settled_utf8 policy f ucd) whole

      -- the end found no room
      pub full_at_end : finished.fault ≡ Some Write → ConvertsText policy f input after (record { read = fed.read; written = fed.written; fault = finished.fault })
      full_at_end is = record {
        read = front.read;
        written = omega (arith, front.written, length_put output part fed.written front.written rest);
        fits = λ e. cc;
        how = inr (record {
          all = all;
          no_fault = no_fault;
          whole = λ not. absurd (not is);
          told = λ not. absurd (not is);
          settles = λ _. take-put_mid_below fed.written (length output - fed.written) output part fed.written (omega arith) front.written ∙ settled;
          full = λ _. omega (arith, finishes.full.0 is, rest, front.written, ap length settled, length-take-le fed.written output front.written, length_put output part fed.written front.written rest);
        });
        form = λ _ none. cc;
      }

      -- or the rest was written
      pub reaches_end : ¬ (finished.fault ≡ Some Write) → finished.written ≤ length part → ReadsLongestText → ConvertsText policy f input after (record { read = fed.read; written = fed.written + finished.written; fault = finished.fault })
      reaches_end not fits longest = record {
        read = front.read;
        written = omega (arith, front.written, rest, fits, length_put output part fed.written front.written rest);
        fits = λ e. rw e at finishes.among;
        how = inr (record { all = all; no_fault = no_fault; whole = λ _. final; told = λ _. told; settles = λ e. absurd (not e); full = λ e. absurd (not e) });
        form = λ plain none. is_form policy f input _ _ plain longest no_fault refl (sym told ∙ none) final;
      }
        where
          final : take (fed.written + finished.written) after ≡ final_utf8 policy f ucd input
          final = take_put output part fed.written front.written rest finished.written fits ∙ ap (λ l. l ++ take finished.written part) settled ∙ sym (finishes.settles not)

          told : finished.fault ≡ result_err (end_of policy ucd 0 input)
          told = rw (← base_is) (finishes.is not)
