-- What driving a filter line by line answers and writes.
use Rattle.std.specs.Prelude.{◌≡◌, ℕ, ◌+◌, ◌≤◌, ◌↔◌, ◌⊎◌, List, [], ◌++◌, length, None, IsTrue, IsFalse, IsErr, OnOk, Result, Ok, Err, ◌^◌}
use Rattle.std.specs.Io.KnownBytes.{Consumes, IsAtEnd}
use Rattle.std.specs.Result.{result_err}
use Rattle.nf_forms.specs.Properties.{Properties}
use Rattle.nf_forms.specs.declared.form.Form.{Form}
use Rattle.nf_filter.specs.declared.fault.Fault.{Fault}
use Rattle.nf_filter.specs.declared.fault.Fault.TheVariants.{TooLong, Read, Write}
use Rattle.nf_filter.specs.declared.policy.Policy.{Policy}
use Rattle.nf_filter.specs.declared.filter.State.{State}
use Rattle.nf_filter.specs.Devices.{SinkState, SourceState}
use Rattle.nf_filter.specs.Writes.{Puts, BreaksOff}
use Rattle.nf_filter.specs.Settled.{settled_utf8}
use Rattle.nf_filter.specs.Faults.{fault_in}
use Rattle.nf_filter.specs.Filter.{base_of, StandsAfter}
use Rattle.nf_filter.specs.Finishes.{final_utf8}
use Rattle.nf_filter.specs.Drives.{due_utf8}
use Rattle.nf_lines.specs.Cut.{AreLines, HasNoLineFeed}
use Rattle.nf_lines.specs.Alone.{end_fault, SameOrLineFeed}

-- bytes that were read: whole lines, and those after them
pub record Lines : Type 0 where
  pub whole : List ℕ
  pub rest : List ℕ

abbrev pub bytes_of : Lines → List ℕ
bytes_of l = l.whole ++ l.rest

-- what is written once they are read: of the lines all, of the rest what is settled
abbrev pub lines_utf8 : Policy → Form → Properties → Lines → List ℕ
lines_utf8 policy f p l = final_utf8 policy f p l.whole ++ settled_utf8 policy f p l.rest

-- the bytes of `l` were taken, and what they come to written; where no fault stopped it, the filter stands after the rest, in
-- which no line ends
pub record TakesLines (policy : Policy) (f : Form) (p : Properties) (state : State) (l : Lines) (first now : SinkState) (result : Result (Unit {0}) Fault) : Type 0 where
  pub whole : AreLines l.whole
  pub no_fault : fault_in policy p 0 l.whole ≡ None
  pub broken_off : result ≡ Err Write → BreaksOff first now [] (lines_utf8 policy f p l)
  pub written : ¬ (result ≡ Err Write) → Puts first now [] (lines_utf8 policy f p l)
  pub answer : ¬ (result ≡ Err Write) → ¬ (result ≡ Err TooLong) → result_err result ≡ fault_in policy p 0 (bytes_of l)
  pub too_long : result ≡ Err TooLong → HasNoLineFeed l.rest × (fault_in policy p 0 (bytes_of l) ≡ None)
  pub stands : result ≡ Ok tt → HasNoLineFeed l.rest × (base_of state ≡ length l.whole) × StandsAfter policy f p state l.rest

-- so of these bytes all were taken but `left`, which are `most` at most
abbrev pub FeedsLines : Policy → Form → Properties → State → (most : ℕ) → List ℕ → SinkState → SinkState → Result (Unit {0}) Fault → Type 0
FeedsLines policy f p state most bytes first now result =
    (l : Lines) × (left : List ℕ) × (bytes_of l ++ left ≡ bytes) × (length left ≤ most) × (result ≡ Ok tt → left ≡ []) × TakesLines policy f p state l first now result

-- a new filter was driven over the source, of which at most `most` bytes are asked for at once
pub record DrivesLines (most : ℕ) (policy : Policy) (f : Form) (p : Properties) (source left : SourceState) (old new : SinkState) (result : Result (Unit {0}) Fault) : Type 0 where
  -- what was taken, and what of the last piece was not
  pub taken : Lines
  pub last : List ℕ
  pub given : Consumes source.coming left.coming (bytes_of taken ++ last)
  pub few : length last ≤ most
  -- at its end the source has nothing left
  pub read_out : IsTrue left.is_at_end → IsAtEnd left.coming
  -- all that was read was taken, unless a fault stood in it or it was too long
  pub all_taken : IsTrue left.is_at_end ⊎ (result ≡ Err Read) → last ≡ []
  pub whole : AreLines taken.whole
  pub lines_no_fault : fault_in policy p 0 taken.whole ≡ None
  -- where no fault was found, the rest has no whole line: each that was read was written to its end
  pub rest : IsTrue left.is_at_end ⊎ ((result ≡ Err Read) ⊎ (result ≡ Err TooLong)) → HasNoLineFeed taken.rest × (fault_in policy p 0 (bytes_of taken) ≡ None)
  pub too_long : (result ≡ Err TooLong) ↔ ((2 ^ 64 ≤ length (bytes_of taken) + length last) × (fault_in policy p 0 (bytes_of taken) ≡ None) × ¬ (result ≡ Err Write))
  -- the sink failed on what was to be written, or all of that was
  pub broken_off : result ≡ Err Write → BreaksOff old new [] (final_utf8 policy f p taken.whole ++ due_utf8 left.is_at_end policy f p taken.rest)
  pub written : ¬ (result ≡ Err Write) → Puts old new [] (final_utf8 policy f p taken.whole ++ due_utf8 left.is_at_end policy f p taken.rest)
  -- without a fault that is the form of all that was read; before one it may have a line feed more than what is settled of it
  pub form : OnOk result (final_utf8 policy f p taken.whole ++ due_utf8 left.is_at_end policy f p taken.rest ≡ final_utf8 policy f p (bytes_of taken))
  pub settled : SameOrLineFeed (settled_utf8 policy f p (bytes_of taken)) (lines_utf8 policy f p taken)
  -- the answer is that of all that was taken
  pub finished : IsTrue left.is_at_end → ¬ (result ≡ Err Write) → result_err result ≡ end_fault policy p 0 (bytes_of taken)
  pub stopped : IsFalse left.is_at_end → ¬ (result ≡ Err Write) → ¬ (result ≡ Err Read) → ¬ (result ≡ Err TooLong)
      → IsErr result × (result_err result ≡ fault_in policy p 0 (bytes_of taken))
