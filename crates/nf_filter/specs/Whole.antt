-- What bytes that are all there is come to.
use Rattle.std.specs.Prelude.{◌≡◌, ℕ, ◌<◌, ◌↔◌, List, [], length, Option, Some, None, IsTrue, Result, Err, is_some, if◌then◌else◌, encode_utf8_all, ◌∷◌}
use Rattle.nf_forms.specs.Properties.{Properties}
use Rattle.nf_forms.specs.declared.form.Form.{Form}
use Rattle.nf_forms.specs.SafeForm.{safe_form}
use Rattle.nf_utf8.specs.Text.{IsText}
use Rattle.nf_filter.specs.declared.fault.Fault.{Fault}
use Rattle.nf_filter.specs.declared.fault.Fault.TheVariants.{Write}
use Rattle.nf_filter.specs.declared.tally.Tally.{Tally}
use Rattle.nf_filter.specs.Kinds.{write, row, ill_formed, cut, IsAmong}
use Rattle.nf_filter.specs.Devices.{SinkState}
use Rattle.nf_filter.specs.Writes.{Puts, BreaksOff}
use Rattle.nf_filter.specs.Policy.{as_is}
use Rattle.nf_filter.specs.Settled.{settled_utf8}
use Rattle.nf_filter.specs.Faults.{fault_in}
use Rattle.nf_filter.specs.Finishes.{end_of, final_utf8}

-- the bytes are the UTF-8 of a text, and `out` is that of the form of the stream-safe text
abbrev pub IsFormOf : Form → Properties → List ℕ → List ℕ → Type 0
IsFormOf f p bytes out = (text : List ℕ) × IsText text × (bytes ≡ encode_utf8_all text) × (out ≡ encode_utf8_all (safe_form f p text))

abbrev pub fault_or : {T : Type 0} → Option Fault → Result T Fault → Result T Fault
fault_or None end = end
fault_or (Some fault) end = Err fault

-- the first fault, or what was taken
unfoldable pub whole_answer : Properties → List ℕ → Result Tally Fault
whole_answer p bytes = fault_or (fault_in as_is p 0 bytes) (end_of as_is p 0 bytes)

-- the whole form, or what of it is settled before the fault
unfoldable pub whole_utf8 : Form → Properties → List ℕ → List ℕ
whole_utf8 f p bytes = if is_some (fault_in as_is p 0 bytes) then settled_utf8 as_is f p bytes else final_utf8 as_is f p bytes

pub record Converts (f : Form) (p : Properties) (bytes : List ℕ) (old new : SinkState) (result : Result Tally Fault) : Type 0 where
  -- the sink failed on what was to be written, or stood failed
  pub write : (result ≡ Err Write) ↔ (IsTrue new.is_failed × (0 < length (whole_utf8 f p bytes)))
  pub broken_off : result ≡ Err Write → BreaksOff old new [] (whole_utf8 f p bytes)
  pub written : ¬ (result ≡ Err Write) → Puts old new [] (whole_utf8 f p bytes)
  pub answer : ¬ (result ≡ Err Write) → result ≡ whole_answer p bytes

-- the faults that may be answered
abbrev pub IsOfWhole : Fault → Type 0
IsOfWhole = IsAmong (write ∷ row ∷ ill_formed ∷ cut ∷ [])
