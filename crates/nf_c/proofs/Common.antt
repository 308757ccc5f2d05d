-- The names that most of these proofs cite, passed on from one place. Declares nothing.
pub use Rattle.nf_c.specs.Feeds.{FeedsFront, IsOfFeeding, ends, CanPass, Feeds}
pub use Rattle.nf_c.specs.Finishes.{FinishesFilter, IsOfFinishing}
pub use Rattle.nf_c.specs.Moved.{ended, read_before}
pub use Rattle.nf_c.specs.Room.{state_of as room_state}
pub use Rattle.nf_c.specs.State.{StandsAfter, mark_at, starter_at, unpacked, IsStarter, HoldsAscii, StandAfter}
pub use Rattle.nf_c.specs.declared.feeding.Fed.{Fed}
pub use Rattle.nf_c.specs.declared.moved.Moved.{Moved}
pub use Rattle.nf_c.specs.declared.room.Room.{Room}
pub use Rattle.nf_c.specs.declared.state.State.{State}
pub use Rattle.nf_filter.specs.Devices.{SinkState}
pub use Rattle.nf_filter.specs.Filter.{StandsAfter as FilterStandsAfter, base_of, is_spent, state_of}
pub use Rattle.nf_filter.specs.Finishes.{final_utf8, end_of, Finishes as FilterFinishes}
pub use Rattle.nf_filter.specs.Policy.{as_is, allowed}
pub use Rattle.nf_filter.specs.Settled.{settled_utf8}
pub use Rattle.nf_filter.specs.declared.fault.Fault.{Fault}
pub use Rattle.nf_filter.specs.declared.fault.Fault.TheVariants.{Row, Spent, TooLong, Write, Read}
pub use Rattle.nf_filter.specs.declared.filter.State.{State as FilterState}
pub use Rattle.nf_filter.specs.declared.policy.Policy.{Policy}
pub use Rattle.nf_filter.specs.declared.saved.Saved.{Saved}
pub use Rattle.nf_filter.specs.declared.tally.Tally.{Tally}
pub use Rattle.nf_forms.specs.Ucd.{ucd}
pub use Rattle.nf_forms.specs.declared.form.Form.{Form}
pub use Rattle.std.specs.Result.{result_err}
