-- The caller's output as a sink.
use Rattle.std.specs.Prelude.{Some, take}
use Rattle.nf_filter.specs.Devices.{SinkState}
use Rattle.nf_c.specs.declared.room.Room.{Room}

-- it tells what was written
abbrev pub state_of : Room → SinkState
state_of room = record { taken = Some (take room.written room.bytes.now); is_failed = room.failed; lender = room.bytes.ghost_name }
