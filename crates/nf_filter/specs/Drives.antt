-- What driving a filter over a source answers and writes.
use Rattle.std.specs.Prelude.{◌≡◌, true, false, Bool, ℕ, ◌+◌, ◌<◌, ◌≤◌, ◌↔◌, ◌⊎◌, List, [], ◌++◌, length, None, IsTrue, IsFalse, IsErr, Result, Err, ◌^◌}
use Rattle.std.specs.Io.KnownBytes.{Consumes, IsAtEnd}
use Rattle.std.specs.Result.{result_err}
use Rattle.nf_forms.specs.Properties.{Properties}
use Rattle.nf_forms.specs.declared.form.Form.{Form}
use Rattle.nf_filter.specs.declared.fault.Fault.{Fault}
use Rattle.nf_filter.specs.declared.fault.Fault.TheVariants.{TooLong, Read, Write}
use Rattle.nf_filter.specs.declared.policy.Policy.{Policy}
use Rattle.nf_filter.specs.declared.filter.State.{State}
use Rattle.nf_filter.specs.declared.tally.Tally.{Tally}
use Rattle.nf_filter.specs.Devices.{SinkState, SourceState}
use Rattle.nf_filter.specs.Writes.{Puts, BreaksOff}
use Rattle.nf_filter.specs.Settled.{settled_utf8}
use Rattle.nf_filter.specs.Faults.{fault_in}
use Rattle.nf_filter.specs.Filter.{base_of, StandsAfter}
use Rattle.nf_filter.specs.Finishes.{end_of, final_utf8}

-- what is written once these bytes are read: all where the source ended
abbrev pub due_utf8 : Bool → Policy → Form → Properties → List ℕ → List ℕ
due_utf8 true policy f p bytes = final_utf8 policy f p bytes
due_utf8 false policy f p bytes = settled_utf8 policy f p bytes

-- the filter stands after `bytes`, the first of which has the offset `base`, and the source, of which at most `most`
-- bytes are asked for at once, is at its end or not
pub record Drives (most : ℕ) (policy : Policy) (f : Form) (p : Properties) (base : ℕ) (bytes : List ℕ) (source left : SourceState) (old new : SinkState) (result : Result Tally Fault) : Type 0 where
  -- what was fed, and the piece that was too long to be fed
  pub fed : List ℕ
  pub last : List ℕ
  pub given : Consumes source.coming left.coming (fed ++ last)
  pub few : length last ≤ most
  -- at its end the source has nothing left
  pub read_out : IsTrue left.is_at_end → IsAtEnd left.coming
  pub too_long : (result ≡ Err TooLong) ↔ (2 ^ 64 ≤ base + length bytes + length fed + length last)
  pub all_fed : ¬ (result ≡ Err TooLong) → last ≡ []
  -- the sink failed on what was to be written, or stood failed
  pub write : (result ≡ Err Write) ↔ (IsTrue new.is_failed × (length (settled_utf8 policy f p bytes) < length (due_utf8 left.is_at_end policy f p (bytes ++ fed))))
  pub broken_off : result ≡ Err Write → BreaksOff old new (settled_utf8 policy f p bytes) (due_utf8 left.is_at_end policy f p (bytes ++ fed))
  pub written : ¬ (result ≡ Err Write) → Puts old new (settled_utf8 policy f p bytes) (due_utf8 left.is_at_end policy f p (bytes ++ fed))
  -- what was fed has no fault where the source ended, or was stopped before more was fed
  pub no_fault : IsTrue left.is_at_end ⊎ ((result ≡ Err Read) ⊎ (result ≡ Err TooLong)) → fault_in policy p base (bytes ++ fed) ≡ None
  -- the filter was finished where the source is at its end, and else stopped by a fault
  pub finished : IsTrue left.is_at_end → ¬ (result ≡ Err Write) → result ≡ end_of policy p base (bytes ++ fed)
  pub stopped : IsFalse left.is_at_end → ¬ (result ≡ Err Write) → ¬ (result ≡ Err Read) → ¬ (result ≡ Err TooLong)
      → IsErr result × (result_err result ≡ fault_in policy p base (bytes ++ fed))

-- a filter that stood after `bytes`, the first of which has the offset `base`, was fed `fed`, and nothing was refused
pub record HasFed (policy : Policy) (f : Form) (p : Properties) (base : ℕ) (state : State) (bytes fed : List ℕ) (old new : SinkState) : Type 0 where
  pub base_is : base_of state ≡ base
  pub stands : StandsAfter policy f p state (bytes ++ fed)
  pub put : Puts old new (settled_utf8 policy f p bytes) (settled_utf8 policy f p (bytes ++ fed))

-- the filter stood after `bytes` and was fed what the source had, to its end; all that it wrote, before and now, is the
-- whole form, of which something more is said
pub record DrivesToEnd (policy : Policy) (f : Form) (p : Properties) (bytes : List ℕ) (source left : SourceState) (old new : SinkState) (Says : List ℕ → Type 0) : Type 0 where
  pub fed : List ℕ
  pub given : Consumes source.coming left.coming fed
  pub read_out : IsAtEnd left.coming
  pub written : Puts old new (settled_utf8 policy f p bytes) (final_utf8 policy f p (bytes ++ fed))
  pub says : Says (bytes ++ fed)
