-- Bytes of which a second filter changes nothing (UAX #15, sections 1.2 and 13).
use Rattle.std.specs.Prelude.{◌≡◌, ℕ, List, length, Option, None, Ok, IsTrue, encode_utf8_all}
use Rattle.std.specs.Io.KnownBytes.{Appends}
use Rattle.nf_forms.specs.Properties.{Properties}
use Rattle.nf_forms.specs.declared.form.Form.{Form}
use Rattle.nf_forms.specs.StreamSafe.{stream_safe}
use Rattle.nf_forms.specs.SafeForm.{safe_form}
use Rattle.nf_forms.specs.Twice.{ChangesOnce}
use Rattle.nf_utf8.specs.Ending.{Whole}
use Rattle.nf_utf8.specs.Reading.{text_of, ending_of}
use Rattle.nf_safe.specs.Place.{is_in_format}
use Rattle.nf_filter.specs.declared.policy.Policy.{Policy}
use Rattle.nf_filter.specs.declared.tally.Tally.{Tally}
use Rattle.nf_filter.specs.Devices.{SinkState, SourceState}
use Rattle.nf_filter.specs.Policy.{allowed}
use Rattle.nf_filter.specs.Faults.{fault_in}
use Rattle.nf_filter.specs.Finishes.{end_of, final_utf8}
use Rattle.nf_filter.specs.Drives.{DrivesToEnd}

-- the policy takes each character of the text that these bytes spell: any does that does not ask for assigned ones
abbrev pub TakesAll : Policy → Properties → List ℕ → Type 0
TakesAll policy p bytes = allowed policy.assigned p (text_of bytes) ≡ text_of bytes

-- all that a filter answers that puts nothing
abbrev pub nothing_put : List ℕ → Tally
nothing_put bytes = record { bytes = length bytes; chars = length (text_of bytes); put = 0 }

pub record StaysAsItIs (f : Form) (p : Properties) (bytes : List ℕ) : Type 0 where
  -- they are the UTF-8 of a text
  pub spelled : bytes ≡ encode_utf8_all (text_of bytes)
  pub whole : ending_of bytes ≡ Whole
  -- which is in the Stream-Safe Text Format, so that the process leaves it, and is its own form
  pub in_format : IsTrue (is_in_format p (text_of bytes))
  pub safe : stream_safe p (text_of bytes) ≡ text_of bytes
  pub form : safe_form f p (text_of bytes) ≡ text_of bytes
  -- so a second filter of this form has no fault, writes these bytes, and puts nothing
  pub no_fault : (policy : Policy) (base : ℕ) → TakesAll policy p bytes → fault_in policy p base bytes ≡ None
  pub again : (policy : Policy) → TakesAll policy p bytes → final_utf8 policy f p bytes ≡ bytes
  pub tally : (policy : Policy) (base : ℕ) → TakesAll policy p bytes → end_of policy p base bytes ≡ Ok (nothing_put bytes)

-- after what was taken, where that is told, there stand bytes that stay so
abbrev pub AddsWhatStays : Form → Properties → Option (List ℕ) → Option (List ℕ) → Type 0
AddsWhatStays f p taken now = (out : List ℕ) × Appends taken now out × StaysAsItIs f p out

-- a filter that stood after `bytes` was driven to the source's end, and all that it wrote stays so: what it had written
-- before, and what it gave to the sink now
abbrev pub DrivesOnce : Policy → Form → Properties → List ℕ → SourceState → SourceState → SinkState → SinkState → Type 0
DrivesOnce policy f p bytes source left old new = DrivesToEnd policy f p bytes source left old new (λ all. StaysAsItIs f p (final_utf8 policy f p all))

-- where the end of all bytes is no fault, all that was written stays so
abbrev pub FinishedStays : Type 0
FinishedStays = (policy : Policy) (f : Form) (p : Properties) (base : ℕ) (bytes : List ℕ) (tally : Tally)
    → ChangesOnce f p → end_of policy p base bytes ≡ Ok tally → StaysAsItIs f p (final_utf8 policy f p bytes)
