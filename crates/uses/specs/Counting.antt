-- A sink that counts.
use Rattle.nf_filter.specs.declared.devices.Sink.{Ghosts}
use Rattle.uses.specs.declared.counting.Counting.{Counting}

abbrev pub sink_of : {S : Type 0} {ghosts : Ghosts S} → Counting S ghosts → S
sink_of counting = counting.sink
