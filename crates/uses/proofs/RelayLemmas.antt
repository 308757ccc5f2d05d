-- What was relayed where a connection ended.
use Rattle.std.proofs.Common.{◌≡◌, ℕ, ◌+◌, ◌<◌, ◌≤◌, ◌↔◌, Bool, true, false, List, [], ◌++◌, length, Option, Result, Ok, Err, refl, sym, IsTrue, IsFalse, OnOk}
use Rattle.std.specs.Io.KnownBytes.{Consumes, IsAtEnd}
use Rattle.nf_forms.specs.Properties.{Properties}
use Rattle.nf_forms.specs.declared.form.Form.{Form}
use Rattle.nf_filter.specs.declared.fault.Fault.{Fault}
use Rattle.nf_filter.specs.declared.fault.Fault.TheVariants.{TooLong, Read}
use Rattle.nf_filter.specs.declared.filter.State.{State}
use Rattle.nf_filter.specs.declared.tally.Tally.{Tally}
use Rattle.nf_filter.specs.Devices.{SinkState, SourceState}
use Rattle.nf_filter.specs.Writes.{Puts}
use Rattle.nf_filter.specs.Settled.{settled_utf8}
use Rattle.nf_filter.specs.Feeds.{Feeds}
use Rattle.nf_filter.specs.Filter.{base_of, offset_of, is_spent, StandsAfter}
use Rattle.nf_filter.specs.Finishes.{Finishes}
use Rattle.nf_filter.specs.Laws.Settled.{settled_utf8-none}
use Rattle.nf_filter.specs.Policy.{as_is}
use Rattle.nf_filter.specs.Drives.{HasFed}
use Rattle.nf_filter.proofs.FeedingLemmas.{fed_by, Drives-failed, Drives-finished, Drives-refused}
use Rattle.nf_filter.proofs.WritesLemmas.{Puts-none, Puts-at}
use Rattle.uses.specs.Network.{Relays}

-- a connection as a source
abbrev pub source_at : Option (List ℕ) → Bool → SourceState
source_at coming ended = record { coming = coming; is_failed = false; is_at_end = ended; lender = 0 }

module _ (f : Form) (p : Properties) where
  pub relays_none : (sink : SinkState) → Puts sink sink [] (settled_utf8 as_is f p [])
  relays_none sink = Puts-at refl (sym (settled_utf8-none as_is f p)) (Puts-none sink [])

  -- the connection as a source that the filter was driven over
  module _ (coming left : Option (List ℕ)) (old mid : SinkState) (state : State) (come : List ℕ) (base : base_of state ≡ 0) (stands : StandsAfter as_is f p state come) (puts : Puts old mid [] (settled_utf8 as_is f p come)) where
    has_fed : HasFed as_is f p 0 state [] come old mid
    has_fed = record {
      base_is = base;
      stands = stands;
      put = Puts-at (sym (settled_utf8-none as_is f p)) refl puts;
    }

    pub relays_failed : Consumes coming left come → Relays f p coming left old mid (Err Read)
    relays_failed read = record {
      source = source_at coming false;
      rest = source_at left false;
      input_is = (refl, refl);
      end = tt;
      driven = Drives-failed as_is f p 0 state [] come old mid has_fed 1500 (source_at coming false) (source_at left false) refl read;
    }

    pub relays_ended : (new : SinkState) (r : Result Tally Fault) → Consumes coming left come → IsAtEnd left → ¬ (r ≡ Err TooLong) → ¬ (r ≡ Err Read)
        → ((bytes : List ℕ) → StandsAfter as_is f p state bytes → Finishes as_is f p 0 bytes mid new r) → OnOk r (IsTrue true) → Relays f p coming left old new r
    relays_ended new r read ended short unread finishes end = record {
      source = source_at coming false;
      rest = source_at left true;
      input_is = (refl, refl);
      end = end;
      driven = Drives-finished as_is f p 0 state [] come old mid has_fed 1500 (source_at coming false) (source_at left true) new r refl read ended short unread (finishes come stands);
    }

    pub relays_refused : (piece : List ℕ) (new : SinkState) (fault : Fault) → Consumes coming left (come ++ piece) → length piece ≤ 1500 → ¬ (fed_by fault ≡ Err Read)
        → ((fed_by fault ≡ Err TooLong) ↔ (IsFalse (is_spent state) × (18446744073709551615 < offset_of state + length piece))) → (fed_by fault ≡ Err TooLong → new ≡ mid)
        → (¬ (fed_by fault ≡ Err TooLong) → Feeds as_is f p 0 come piece mid new (Err fault)) → Relays f p coming left old new (Err fault)
    relays_refused piece new fault read few unread long kept feeds = record {
      source = source_at coming false;
      rest = source_at left false;
      input_is = (refl, refl);
      end = tt;
      driven = Drives-refused as_is f p 0 state [] come old mid has_fed 1500 (source_at coming false) (source_at left false) refl piece new fault read few unread long kept feeds;
    }

pub ok_end : (r : Result Tally Fault) → OnOk r (IsTrue true)
ok_end (Ok tally) = refl
ok_end (Err fault) = tt
