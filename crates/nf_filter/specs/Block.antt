-- Where the output block and the sink stand.
use Rattle.std.specs.Prelude.{◌≡◌, List, ◌++◌, ℕ, Result, Ok, Err}
use Rattle.nf_filter.specs.declared.block.Block.{Block}
use Rattle.nf_filter.specs.declared.devices.Failed.{Failed}
use Rattle.nf_filter.specs.declared.fault.Fault.{Fault}
use Rattle.nf_filter.specs.declared.fault.Fault.TheVariants.{Write}
use Rattle.nf_filter.specs.Devices.{SinkState}
use Rattle.nf_filter.specs.Writes.{Puts, BreaksOff}

-- where the sink stood when the block was begun, what was written before, and what of the text that is written
-- now stands ahead of the part that is told
pub record Start : Type 0 where
  pub sink : SinkState
  pub before : List ℕ
  pub ahead : List ℕ

-- where it stands, and what the block keeps
pub record BlockState : Type 0 where
  pub sink : SinkState
  pub kept : List ℕ

abbrev pub block_state : SinkState → Block → BlockState
block_state sink block = record { sink = sink; kept = block.room.items }

-- all of `after` that stands after what was written before is given to the sink, or kept
pub record Written (start : Start) (now : BlockState) (after : List ℕ) : Type 0 where
  pub given : List ℕ
  pub puts : Puts start.sink now.sink start.before given
  pub text : start.ahead ++ after ≡ given ++ now.kept

-- the sink failed, and took a part of it
abbrev pub Broken : Start → BlockState → List ℕ → Type 0
Broken start now after = BreaksOff start.sink now.sink start.before (start.ahead ++ after)

-- so it is written, or the sink failed
abbrev pub WritesOn : Start → BlockState → List ℕ → Result (Unit {0}) Failed → Type 0
WritesOn start now after (Ok _) = Written start now after
WritesOn start now after (Err _) = Broken start now after

-- what was found once it is written, unless the sink failed
pub record WritesTo (start : Start) (now : BlockState) (after : List ℕ) (found : Result (Unit {0}) Fault) : Type 0 where
  pub broken : found ≡ Err Write → Broken start now after
  pub written : ¬ (found ≡ Err Write) → Written start now after

-- then all of it is given to the sink, or that failed
pub record GivesAll (start : Start) (new : SinkState) (after : List ℕ) (found result : Result (Unit {0}) Fault) : Type 0 where
  pub broken : result ≡ Err Write → BreaksOff start.sink new start.before (start.ahead ++ after)
  pub given : ¬ (result ≡ Err Write) → Puts start.sink new start.before (start.ahead ++ after) × (result ≡ found)
