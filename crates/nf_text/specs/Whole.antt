-- What stands after all that a reader gave.
use Rattle.std.specs.Prelude.{◌≡◌, false, ℕ, List, Option, Some, Result, OnOk, IsTrue, encode_utf8_all, [], ◌∷◌}
use Rattle.std.specs.Io.KnownBytes.{Appends}
use Rattle.nf_forms.specs.Properties.{Properties}
use Rattle.nf_forms.specs.declared.form.Form.{Form}
use Rattle.nf_forms.specs.SafeForm.{safe_form}
use Rattle.nf_utf8.specs.Text.{IsText}
use Rattle.nf_filter.specs.declared.fault.Fault.{Fault}
use Rattle.nf_filter.specs.declared.tally.Tally.{Tally}
use Rattle.nf_filter.specs.Devices.{SinkState, SourceState}
use Rattle.nf_filter.specs.Drives.{Drives}
use Rattle.nf_filter.specs.Policy.{as_is}
use Rattle.nf_filter.specs.Kinds.{too_long, read, write, ill_formed, cut, IsAmong}

-- where the reader tells what it had, this was the UTF-8 of a text, and the writer took that of the form of the
-- stream-safe text
abbrev pub PassesWhole : Form → Properties → Option (List ℕ) → Option (List ℕ) → Option (List ℕ) → Type 0
PassesWhole f p coming taken now = (bytes : List ℕ) → coming ≡ Some bytes
    → (text : List ℕ) × IsText text × (bytes ≡ encode_utf8_all text) × Appends taken now (encode_utf8_all (safe_form f p text))

-- the faults of text over Unicode's data
abbrev pub IsOfText : Fault → Type 0
IsOfText = IsAmong (too_long ∷ read ∷ write ∷ ill_formed ∷ cut ∷ [])

-- the library's `run` answers so, over what the reader has still to give and what the writer has taken, before and after,
-- where they tell it: before a fault what is settled of what was read was written, and the fault is the first in that
pub record Passes (f : Form) (p : Properties) (coming left taken now : Option (List ℕ)) (answer : Result Tally Fault) : Type 0 where
  pub source : SourceState
  pub rest : SourceState
  pub old : SinkState
  pub new : SinkState
  pub input_is : (source.coming ≡ coming) × (rest.coming ≡ left)
  pub output_is : (old.taken ≡ taken) × (new.taken ≡ now)
  pub unfailed : (source.is_failed ≡ false) × (old.is_failed ≡ false)
  pub end : OnOk answer (IsTrue rest.is_at_end)
  pub driven : Drives 4096 as_is f p 0 [] source rest old new answer
