-- What feeding takes of the caller's input, and gives to the caller's output.
use Rattle.std.specs.Prelude.{◌≡◌, ◌↔◌, true, false, Bool, ℕ, ◌+◌, ◌≤◌, ◌<◌, ◌^◌, List, [], ◌∷◌, ◌++◌, length, take, Option, Some, None, IfSome}
use Rattle.std.specs.Str.{IsAscii}
use Rattle.nf_forms.specs.Ucd.{ucd}
use Rattle.nf_forms.specs.declared.form.Form.{Form}
use Rattle.nf_filter.specs.declared.fault.Fault.{Fault}
use Rattle.nf_filter.specs.declared.fault.Fault.TheVariants.{Spent, TooLong, Read, Write, Row, BadByte, Cut, Unassigned}
use Rattle.nf_filter.specs.declared.filter.State.{State as FilterState}
use Rattle.nf_filter.specs.declared.policy.Policy.{Policy}
use Rattle.nf_filter.specs.Kinds.{too_long, write, ill_formed, unassigned, IsAmong}
use Rattle.nf_filter.specs.Settled.{settled_utf8}
use Rattle.nf_filter.specs.Faults.{fault_in}
use Rattle.nf_filter.specs.Filter.{base_of, is_spent, StandsAfter as FilterStandsAfter}
use Rattle.nf_c.specs.declared.feeding.Fed.{Fed}
use Rattle.nf_c.specs.declared.moved.Moved.{Moved}
use Rattle.nf_c.specs.declared.state.State.{State}
use Rattle.nf_c.specs.Moved.{ended, read_before}
use Rattle.nf_c.specs.State.{CanStand, HoldsAscii, StandsAfter}

-- the text ends there: a full output or too long an input does not end it
abbrev pub ends : Option Fault → Bool
ends None = false
ends (Some Spent) = true
ends (Some TooLong) = false
ends (Some Read) = true
ends (Some Write) = false
ends (Some (Row at)) = true
ends (Some (BadByte at start)) = true
ends (Some (Cut at start)) = true
ends (Some (Unassigned at)) = true

-- why feeding may end: no character of Unicode's data is unsound
abbrev pub IsOfFeeding : Fault → Type 0
IsOfFeeding = IsAmong (too_long ∷ write ∷ ill_formed ∷ unassigned ∷ [])

-- a front of the piece was fed to the filter, which stood after the bytes: what that settles was written, and then there is
-- a fault in it, or the filter stands after it
pub record FeedsFront (policy : Policy) (f : Form) (bytes piece output : List ℕ) (was now : FilterState) (fed : Fed) : Type 0 where
  pub read : fed.read ≤ length piece
  pub written : fed.written ≤ length output
  pub settles : settled_utf8 policy f ucd (bytes ++ take fed.read piece) ≡ settled_utf8 policy f ucd bytes ++ take fed.written output
  pub base : base_of now ≡ base_of was
  pub stands : ends fed.fault ≡ false → FilterStandsAfter policy f ucd now (bytes ++ take fed.read piece)
  pub fault : ends fed.fault ≡ true → fed.fault ≡ fault_in policy ucd (base_of was) (bytes ++ take fed.read piece)
  pub spent : ends fed.fault ≡ true → is_spent now ≡ true
  pub among : IfSome fed.fault IsOfFeeding

-- the state stood after the bytes: so many bytes were seen of the input, and the first of the output are what these settle
pub record Feeds (policy : Policy) (f : Form) (bytes input : List ℕ) (old new : State) (output : List ℕ) (moved : Moved) : Type 0 where
  pub fault : Option Fault
  pub seen : ℕ
  pub written : ℕ
  -- those are told that stand before a fault in them, or else all
  pub is : moved ≡ ended fault (read_before fault old.offset (length input) seen) written
  pub among : IfSome fault IsOfFeeding
  pub seen_within : seen ≤ length input
  pub written_within : written ≤ length output
  pub settles : settled_utf8 policy f ucd (bytes ++ take seen input) ≡ settled_utf8 policy f ucd bytes ++ take written output
  -- all was read where no fault is told
  pub all : fault ≡ None → seen ≡ length input
  -- the output has no room for what one byte more settles
  pub full : fault ≡ Some Write → length (settled_utf8 policy f ucd bytes) + length output < length (settled_utf8 policy f ucd (bytes ++ take (seen + 1) input))
  -- the state stands after what was read, or a fault is in that, and the state is spent
  pub stands : ends fault ≡ false → StandsAfter policy f new (bytes ++ take seen input)
  pub told : ends fault ≡ true → fault ≡ fault_in policy ucd old.base (bytes ++ take seen input)
  pub spent : ends fault ≡ true → CanStand new × (new.spent ≡ 1)
  -- too long is told where the offset after the input would be no `u64`, and then nothing was read
  pub too_long : (fault ≡ Some TooLong) ↔ (2 ^ 64 ≤ old.offset + length input)
  pub nothing : fault ≡ Some TooLong → (seen ≡ 0) × (written ≡ 0) × (new ≡ old)

-- the first so many bytes of the input are ASCII after an ASCII character, and what goes out for them has room: they are all, or
-- there is room for no more, and the next is ASCII too
pub record CanPass (state : State) (input : List ℕ) (space len : ℕ) : Type 0 where
  pub holds : HoldsAscii state
  pub within : len ≤ length input
  pub room : len ≤ space
  pub ascii : IsAscii (take len input)
  pub more : len < length input → (len ≡ space) × IsAscii (take (len + 1) input)
