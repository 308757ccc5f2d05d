-- What driving a new filter comes to where all was read.
use Rattle.std.proofs.Common.{◌≡◌, false, Option, ℕ, List, [], ◌++◌, Result, Ok, Err, inl, refl, sym, ap, ◌∙◌, subst, append-nil, encode_utf8_all, IsTrue, IfSome, OnOk, IfErr}
use Rattle.std.specs.Io.KnownBytes.{Appends}
use Rattle.std.proofs.KnownBytes.{Consumes-all}
use Rattle.nf_forms.specs.Properties.{Properties}
use Rattle.nf_forms.specs.declared.form.Form.{Form}
use Rattle.nf_forms.specs.SafeForm.{safe_form}
use Rattle.nf_utf8.specs.Ending.{Whole}
use Rattle.nf_utf8.specs.Reading.{text_of, ending_of}
use Rattle.nf_utf8.specs.Reads.{Reads, EndsAs}
use Rattle.nf_filter.specs.declared.fault.Fault.{Fault}
use Rattle.nf_filter.specs.declared.fault.Fault.TheVariants.{Spent, TooLong, Read, Write, Row, BadByte, Cut, Unassigned}
use Rattle.nf_filter.specs.declared.tally.Tally.{Tally}
use Rattle.nf_filter.specs.Devices.{SinkState, SourceState}
use Rattle.nf_filter.specs.Writes.{Puts}
use Rattle.nf_filter.specs.Settled.{settled_utf8}
use Rattle.nf_filter.specs.Finishes.{final_utf8}
use Rattle.nf_filter.specs.Drives.{due_utf8, Drives}
use Rattle.nf_filter.specs.Laws.Settled.{settled_utf8-none}
use Rattle.nf_filter.specs.Laws.Soundness.{RefusesNone}
use Rattle.nf_filter.specs.Policy.{as_is}
use Rattle.nf_filter.proofs.WholeLemmas.{ending_whole, final_is}
use Rattle.nf_text.specs.Whole.{IsOfText, Passes, PassesWhole}

module _ (f : Form) (p : Properties) where
  module _ (most : ℕ) (source rest : SourceState) (old new : SinkState) where
    read_whole : (tally : Tally) → ((bytes : List ℕ) → Reads bytes (text_of bytes) (ending_of bytes)) → IsTrue rest.is_at_end → Drives most as_is f p 0 [] source rest old new (Ok tally)
        → PassesWhole f p source.coming old.taken new.taken
    read_whole tally reads end drives bytes told = (text_of bytes, (reads bytes).front.scalars, spelled, given)
      where
        last : drives.last ≡ []
        last = drives.all_fed (λ e. cc)

        all : drives.fed ++ drives.last ≡ bytes
        all = subst (λ c. IfSome c (λ xs. drives.fed ++ drives.last ≡ xs)) told (Consumes-all source.coming rest.coming (drives.fed ++ drives.last) [] (drives.fed ++ drives.last) drives.given (drives.read_out end) refl)

        fed : drives.fed ≡ bytes
        fed = sym (append-nil drives.fed) ∙ ap (λ l. drives.fed ++ l) (sym last) ∙ all

        is : ending_of bytes ≡ Whole
        is = subst (λ l. ending_of l ≡ Whole) fed (ending_whole p drives.fed tally (drives.finished end (λ e. cc)) (drives.no_fault (inl end)))

        spelled : bytes ≡ encode_utf8_all (text_of bytes)
        spelled = subst (λ e. EndsAs bytes (text_of bytes) e) is (reads bytes).end

        puts : Puts old new (settled_utf8 as_is f p []) (due_utf8 rest.is_at_end as_is f p drives.fed)
        puts = drives.written (λ e. cc)

        due : due_utf8 rest.is_at_end as_is f p drives.fed ≡ encode_utf8_all (safe_form f p (text_of bytes))
        due = ap (λ b. due_utf8 b as_is f p drives.fed) end ∙ ap (final_utf8 as_is f p) fed ∙ final_is f p bytes is

        out : puts.out ≡ encode_utf8_all (safe_form f p (text_of bytes))
        out = ap (λ l. l ++ puts.out) (sym (settled_utf8-none as_is f p)) ∙ sym puts.after ∙ due

        given : Appends old.taken new.taken (encode_utf8_all (safe_form f p (text_of bytes)))
        given = subst (Appends old.taken new.taken) out puts.given

    pub whole : (answer : Result Tally Fault) → ((bytes : List ℕ) → Reads bytes (text_of bytes) (ending_of bytes)) → OnOk answer (IsTrue rest.is_at_end) → Drives most as_is f p 0 [] source rest old new answer
        → OnOk answer (PassesWhole f p source.coming old.taken new.taken)
    whole (Ok tally) reads end drives = read_whole tally reads end drives
    whole (Err fault) reads end drives = tt

-- no filter that is new is spent, and no character is refused for being unsound or not assigned
pub faults : (answer : Result Tally Fault) → ¬ (answer ≡ Err Spent) → RefusesNone answer → ((at : ℕ) → ¬ (answer ≡ Err (Unassigned at))) → IfErr answer IsOfText
faults (Ok tally) unspent none taken = tt
faults (Err Spent) unspent none taken = unspent refl
faults (Err TooLong) unspent none taken = tt
faults (Err Read) unspent none taken = tt
faults (Err Write) unspent none taken = tt
faults (Err (BadByte at start)) unspent none taken = tt
faults (Err (Cut at start)) unspent none taken = tt
faults (Err (Row at)) unspent none taken = none at refl
faults (Err (Unassigned at)) unspent none taken = taken at refl

pub passes_from : (f : Form) (p : Properties) (coming left taken now : Option (List ℕ)) (source rest : SourceState) (old new : SinkState) (answer : Result Tally Fault)
    → Drives 4096 as_is f p 0 [] source rest old new answer → OnOk answer (IsTrue rest.is_at_end)
    → source.coming ≡ coming → rest.coming ≡ left → old.taken ≡ taken → new.taken ≡ now → source.is_failed ≡ false → old.is_failed ≡ false → Passes f p coming left taken now answer
passes_from f p coming left taken now source rest old new answer driven end source_is rest_is old_is new_is unread unfailed = record {
  source = source;
  rest = rest;
  old = old;
  new = new;
  input_is = (source_is, rest_is);
  output_is = (old_is, new_is);
  unfailed = (unread, unfailed);
  end = end;
  driven = driven;
}
