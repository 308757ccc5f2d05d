-- What finishing a filter answers and writes.
use Rattle.std.specs.Prelude.{◌≡◌, true, false, Bool, ◌&&◌, ◌==◌, ℕ, ◌+◌, ◌-◌, ◌<◌, ◌↔◌, List, length, IsTrue, Option, Some, None, Result, Ok, Err, if◌then◌else◌, encode_utf8_all}
use Rattle.nf_forms.specs.Properties.{Properties}
use Rattle.nf_forms.specs.declared.form.Form.{Form}
use Rattle.nf_forms.specs.StreamSafe.{stream_safe}
use Rattle.nf_utf8.specs.Ending.{Ending, Whole, Bad, Cut}
use Rattle.nf_utf8.specs.Reading.{ending_of}
use Rattle.nf_filter.specs.declared.fault.Fault.{Fault}
use Rattle.nf_filter.specs.declared.fault.Fault.TheVariants.{Write}
use Rattle.nf_filter.specs.declared.counted.Counted.{Counted}
use Rattle.nf_filter.specs.declared.policy.Policy.{Policy}
use Rattle.nf_filter.specs.declared.tally.Tally.{Tally}
use Rattle.nf_filter.specs.Devices.{SinkState}
use Rattle.nf_filter.specs.Policy.{allowed, len_under, whole_under}
use Rattle.nf_filter.specs.Faults.{answer_at_end, first_fault}
use Rattle.nf_filter.specs.Counted.{HasTaken, settled_text}
use Rattle.nf_filter.specs.Writes.{Puts, BreaksOff}
use Rattle.nf_forms.specs.SafeForm.{safe_form}
use Rattle.nf_filter.specs.Settled.{is_usable, settled_utf8}

-- the bytes, the characters that they give, and the joiners that the process puts
abbrev pub tally_of : Bool → Properties → List ℕ → Tally
tally_of replace p bytes = record {
  bytes = length bytes;
  chars = length (whole_under replace bytes);
  put = length (stream_safe p (whole_under replace bytes)) - length (whole_under replace bytes);
}

abbrev pub answer_or : {T : Type 0} → Option Fault → T → Result T Fault
answer_or None value = Ok value
answer_or (Some fault) value = Err fault

-- a character that the end cuts is a fault, or is replaced; then it may be one that is not taken
abbrev pub end_under : Bool → Bool → Properties → ℕ → List ℕ → Result Tally Fault
end_under false assigned p base bytes = answer_at_end base (tally_of false p bytes) (ending_of bytes)
end_under true assigned p base bytes = answer_or (first_fault assigned p (λ front. base + len_under true bytes front) (whole_under true bytes) None) (tally_of true p bytes)

unfoldable pub end_of : Policy → Properties → ℕ → List ℕ → Result Tally Fault
end_of policy p base bytes = end_under policy.replace policy.assigned p base bytes

-- what was written then: after a begun character the settled part alone
abbrev pub whole_or : Ending → List ℕ → List ℕ → List ℕ
whole_or Whole settled whole = whole
whole_or (Bad at start) settled whole = whole
whole_or (Cut at start) settled whole = settled

-- all characters are taken
abbrev pub is_taken : Bool → Properties → List ℕ → Bool
is_taken assigned p x = is_usable p (allowed assigned p x) && (length (allowed assigned p x) == length x)

abbrev pub final_under : Bool → Bool → Properties → List ℕ → List ℕ → List ℕ → List ℕ
final_under false assigned p bytes settled whole = whole_or (ending_of bytes) settled whole
final_under true assigned p bytes settled whole = if is_taken assigned p (whole_under true bytes) then whole else settled

unfoldable pub final_utf8 : Policy → Form → Properties → List ℕ → List ℕ
final_utf8 policy f p bytes = final_under policy.replace policy.assigned p bytes (settled_utf8 policy f p bytes) (encode_utf8_all (safe_form f p (whole_under policy.replace bytes)))

-- the filter stands after `bytes`, the first of which has the offset `base`
pub record Finishes (policy : Policy) (f : Form) (p : Properties) (base : ℕ) (bytes : List ℕ) (old new : SinkState) (result : Result Tally Fault) : Type 0 where
  -- the sink failed on what was to be written, or stood failed
  pub write : (result ≡ Err Write) ↔ (IsTrue new.is_failed × (length (settled_utf8 policy f p bytes) < length (final_utf8 policy f p bytes)))
  pub broken_off : result ≡ Err Write → BreaksOff old new (settled_utf8 policy f p bytes) (final_utf8 policy f p bytes)
  pub written : ¬ (result ≡ Err Write) → Puts old new (settled_utf8 policy f p bytes) (final_utf8 policy f p bytes)
  pub answer : ¬ (result ≡ Err Write) → result ≡ end_of policy p base bytes

-- what comes before the rest of the form: nothing of a character is held any more, or the filter was refused
abbrev pub Closes : Policy → Form → Properties → Counted → ℕ → List ℕ → SinkState → SinkState → Result (Unit {0}) Fault → Type 0
Closes policy f p counted base bytes old new (Ok _) =
    HasTaken f p counted (whole_under policy.replace bytes)
    × Puts old new (settled_utf8 policy f p bytes) (settled_text f p (whole_under policy.replace bytes))
    × (end_of policy p base bytes ≡ Ok (tally_of policy.replace p bytes))
    × (final_utf8 policy f p bytes ≡ encode_utf8_all (safe_form f p (whole_under policy.replace bytes)))
Closes policy f p counted base bytes old new (Err fault) = Finishes policy f p base bytes old new (Err fault)
