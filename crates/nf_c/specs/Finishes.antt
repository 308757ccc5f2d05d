-- What finishing gives to the caller's output.
use Rattle.std.specs.Prelude.{◌≡◌, ℕ, ◌+◌, ◌≤◌, ◌<◌, ◌↔◌, List, [], ◌∷◌, ◌++◌, length, take, Some, IfSome}
use Rattle.std.specs.Result.{result_err}
use Rattle.nf_forms.specs.Ucd.{ucd}
use Rattle.nf_forms.specs.declared.form.Form.{Form}
use Rattle.nf_filter.specs.declared.fault.Fault.{Fault}
use Rattle.nf_filter.specs.declared.fault.Fault.TheVariants.{Write}
use Rattle.nf_filter.specs.declared.policy.Policy.{Policy}
use Rattle.nf_filter.specs.Kinds.{write, cut, unassigned, IsAmong}
use Rattle.nf_filter.specs.Finishes.{end_of, final_utf8}
use Rattle.nf_filter.specs.Settled.{settled_utf8}
use Rattle.nf_c.specs.declared.finishing.Finished.{Finished}
use Rattle.nf_c.specs.declared.moved.Moved.{Moved}
use Rattle.nf_c.specs.declared.state.State.{State}
use Rattle.nf_c.specs.declared.status.Status.TheVariants.{Full}
use Rattle.nf_c.specs.Moved.{moved as moved_by, ended}
use Rattle.nf_c.specs.State.{CanStand}

-- why finishing may fail: no character of Unicode's data is unsound
abbrev pub IsOfFinishing : Fault → Type 0
IsOfFinishing = IsAmong (write ∷ cut ∷ unassigned ∷ [])

-- the filter stood after the bytes, the first of which has the offset `base`
pub record FinishesFilter (policy : Policy) (f : Form) (base : ℕ) (bytes output : List ℕ) (finished : Finished) : Type 0 where
  pub among : IfSome finished.fault IsOfFinishing
  -- there was no room for all of it
  pub full : (finished.fault ≡ Some Write) ↔ (length (settled_utf8 policy f ucd bytes) + length output < length (final_utf8 policy f ucd bytes))
  -- or all was written, or what stands before a fault at the end
  pub is : ¬ (finished.fault ≡ Some Write) → finished.fault ≡ result_err (end_of policy ucd base bytes)
  pub settles : ¬ (finished.fault ≡ Some Write) → final_utf8 policy f ucd bytes ≡ settled_utf8 policy f ucd bytes ++ take finished.written output

-- the state stood after the bytes
pub record Finishes (policy : Policy) (f : Form) (bytes : List ℕ) (old new : State) (output : List ℕ) (moved : Moved) : Type 0 where
  pub finished : Finished
  pub finishes : FinishesFilter policy f old.base bytes output finished
  -- where there was no room, nothing changed
  pub full : finished.fault ≡ Some Write → (moved ≡ moved_by Full 0 0) × (new ≡ old)
  pub told : ¬ (finished.fault ≡ Some Write) → moved ≡ ended finished.fault 0 finished.written
  pub written : ¬ (finished.fault ≡ Some Write) → finished.written ≤ length output
  -- the state is spent then: each later call tells so
  pub spent : ¬ (finished.fault ≡ Some Write) → CanStand new × (new.spent ≡ 1)
