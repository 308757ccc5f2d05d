-- What a run shows: its parts put together, no fault of an unsound character where none of the data is one, and that what `convert`
-- wrote to the end without a fault is not changed by a second run.
use Rattle.nf_cmd.proofs.Common.{cases_Bool, ◌≡◌, ℕ, List, [], Option, Some, Result, Ok, Err, inl, inr, subst, ◌⊎◌, ⊎_elim, refl, IsTrue, Appends-kept, Form, Convert, ConvertLines, Check, CheckForm, Measure, Test, arith, Keeps, Appends-nil, ErrorKind, DisplayHelp, Text, Request, line_of, IsRefusal, IsRefused}
use Rattle.nf_cmd.specs.Answers.{Does, Answers, ComesOf, Devices}
use Rattle.nf_cmd.specs.declared.fault.Fault.{Fault}
use Rattle.nf_filter.specs.Devices.{SinkState, SourceState}
use Rattle.nf_filter.specs.Drives.{Drives}
use Rattle.nf_filter.specs.declared.policy.Policy.{Policy}
use Rattle.nf_filter.specs.declared.tally.Tally.{Tally}
use Rattle.nf_forms.specs.Ucd.{ucd}
use Rattle.nf_lines.specs.Drives.{bytes_of, DrivesLines}
use Rattle.nf_forms.specs.Twice.{ChangesOnce}
use Rattle.nf_filter.specs.declared.fault.Fault.{Fault as Found}
use Rattle.nf_filter.specs.declared.fault.Fault.TheVariants as found
use Rattle.nf_filter.specs.Laws.Soundness.{AreSound, DrivingRefusesNone, CheckingRefusesNone, MeasuringRefusesNone}
use Rattle.nf_filter.specs.Writes.{Puts}
use Rattle.nf_filter.specs.Finishes.{end_of as finished, final_utf8}
use Rattle.nf_filter.specs.Again.{StaysAsItIs, AddsWhatStays, FinishedStays}
use Rattle.nf_filter.proofs.WritesLemmas.{Puts-at}
use Rattle.nf_filter.proofs.AgainLemmas.{drives_to_end, adds_what_stays}
use Rattle.nf_filter.proofs.SoundnessLemmas.{not_a_fault, not_in_end, not_surveyed}
use Rattle.nf_normalized.specs.Change.{form_decision, form_value, under}
use Rattle.nf_cmd.specs.declared.fault.Fault.TheVariants.{Row, Write}
use Rattle.nf_cmd.specs.Converts.{Ends, end_of, Runs}
use Rattle.nf_cmd.specs.Again.{ConvertsOnce}

-- status 2 is not that of memory
pub refused_by : {words : List Text} {k : ErrorKind} (before after : Devices) {status : ℕ} → IsRefusal words k → ComesOf k before after status → status ≡ 2 → IsRefused words
refused_by before after (inl memory) comes two = let none = rw memory at comes in absurd (omega arith)
refused_by {k = k} before after (inr refuses) comes two = (k, refuses)

-- an error of clap is answered as one of memory, or as a refusal
pub refused_answers : {words : List Text} {k : ErrorKind} {before after : Devices} {status : ℕ} → IsRefusal words k → Keeps before.input after.input
    → ComesOf k before after status → Answers words before after status
refused_answers (inl memory) unread comes = inl (rw memory at comes)
refused_answers (inr refuses) unread comes = inr (inl (record { kind = _; refuses = refuses; unread = unread; comes = comes }))

-- help that was written
pub help_answers : {k : ErrorKind} (before after : Devices) → DisplayHelp ≡ k → after.err ≡ before.err → ComesOf k before after 0
unfolding line_of
help_answers before after help same = rw (← help) (inr (inl (record { status_is = refl; line = ([], [], refl, rw same (Appends-nil before.err)) })))

-- no character is unsound
pub never_row : DrivingRefusesNone → CheckingRefusesNone → MeasuringRefusesNone → AreSound ucd
    → (request : Request) (before after : Devices) (ended : Result ℕ Fault) → Does request before after ended → (at : ℕ) → ¬ (ended ≡ Err (Row at))
unfolding form_decision
never_row driving checking measuring sound (Convert form policy) before after ended does at row = driving _ _ _ _ _ _ _ _ _ _ _ sound does.runs.driven at (grind arith)
never_row driving checking measuring sound (ConvertLines form policy) before after ended does at row =
    let told : does.answer ≡ Err (found.Row at) = grind arith in
    let drives = does.runs.driven in
    ⊎_elim (λ end. not_in_end ucd sound 0 at policy (bytes_of drives.taken) (grind (arith, drives.finished end (λ e. cc))))
    (λ end. not_a_fault ucd sound 0 at policy (bytes_of drives.taken) (grind (arith, drives.stopped end (λ e. cc) (λ e. cc) (λ e. cc))))
    (cases_Bool does.runs.rest.is_at_end)
never_row driving checking measuring sound Check before after ended does at row = checking _ _ _ _ _ _ sound does.surveyed.surveys at (grind arith)
never_row driving checking measuring sound (CheckForm form assigned) before after ended does at row =
    not_surveyed {most = 65536} {base = 0} {at = at} {decision = form_decision assigned form 0} {value = form_value form 0} (λ bytes e. grind (arith, not_a_fault ucd sound 0 at (under assigned) bytes)) does.surveyed.surveys (grind arith)
never_row driving checking measuring sound Measure before after ended does at row = measuring _ _ _ _ _ _ sound does.surveyed.surveys at (grind arith)
never_row driving checking measuring sound Test before after ended does at row = grind arith

-- ---- what was converted stays

abbrev no_fault : Result ℕ Fault
no_fault = Ok 0

-- where a run of the library that has no fault adds what stays, the program's does; a flush after it changes nothing
module _ {T : Type 0} (f : Form) (drives : SourceState → SourceState → SinkState → SinkState → Result T Found → Type 0)
    (stays : (source rest : SourceState) (old new : SinkState) (value : T) → IsTrue rest.is_at_end → drives source rest old new (Ok value) → AddsWhatStays f ucd old.taken new.taken) where
  ends_once : {coming left taken now : Option (List ℕ)} → Ends drives coming left taken now (Ok 0) → AddsWhatStays f ucd taken now
  ends_once {coming} {left} {taken} {now} does = by does.answer does.found_is does.runs
    where
      by : (answer : Result T Found) → (Some no_fault ≡ end_of answer) ⊎ (no_fault ≡ Err Write) → Runs drives coming left taken does.given answer → AddsWhatStays f ucd taken now
      by (Ok value) is runs =
          let adds = rw (runs.output_is.0, runs.output_is.1) at (stays _ _ _ _ value runs.end runs.driven) in
          (adds.0, Appends-kept _ _ _ adds.0 adds.1 does.flushed, adds.2)
      by (Err fault) is runs = absurd (grind arith)

module _ (law : FinishedStays) (f : Form) (policy : Policy) (once : ChangesOnce f ucd) where
  whole_once : (source rest : SourceState) (old new : SinkState) (tally : Tally) → IsTrue rest.is_at_end → Drives 65536 policy f ucd 0 [] source rest old new (Ok tally) → AddsWhatStays f ucd old.taken new.taken
  whole_once source rest old new tally end driven =
      adds_what_stays f ucd old new policy source rest (Ok tally) (drives_to_end (Ok tally) (λ all tally _ end. law policy f ucd 0 all tally once end) end driven)

  lines_once : (source rest : SourceState) (old new : SinkState) (value : Unit {0}) → IsTrue rest.is_at_end → DrivesLines 65536 policy f ucd source rest old new (Ok value) → AddsWhatStays f ucd old.taken new.taken
  lines_once source rest old new value end driven = by (finished policy ucd 0 (bytes_of driven.taken)) refl
    where
      puts : Puts old new [] (final_utf8 policy f ucd (bytes_of driven.taken))
      puts = Puts-at refl driven.form (driven.written (λ e. cc))

      by : (r : Result Tally Found) → finished policy ucd 0 (bytes_of driven.taken) ≡ r → AddsWhatStays f ucd old.taken new.taken
      by (Ok tally) is = (puts.out, puts.given, subst (StaysAsItIs f ucd) puts.after (law policy f ucd 0 (bytes_of driven.taken) tally once is))
      by (Err fault) is = absurd (grind (arith, driven.finished end (λ e. cc)))

pub converts_once : FinishedStays → ((f : Form) → ChangesOnce f ucd) → (words : List Text) (before after : Devices) (status : ℕ) → ConvertsOnce words before after status
converts_once law once words before after status f policy done asked zero =
    let ok : done.found ≡ no_fault = grind arith in
    let does = rw ok at done.does in
    ⊎_elim (λ is. ends_once f (Drives 65536 policy f ucd 0 []) (whole_once law f policy (once f)) (rw is at does))
    (λ is. ends_once f (DrivesLines 65536 policy f ucd) (lines_once law f policy (once f)) (rw is at does)) asked
