-- A writer as a sink.
use Rattle.std.specs.Prelude.{Bool}
use Rattle.nf_filter.specs.declared.to_writer.ToWriter.{ToWriter}
use Rattle.nf_filter.specs.declared.to_writer.LentWriter.{LentWriter}

abbrev pub writer_of : {W : Type 0} → ToWriter W → W
writer_of sink = sink.writer

abbrev pub has_failed : {W : Type 0} → ToWriter W → Bool
has_failed sink = sink.failed

-- one that was lent
abbrev pub lent_writer_of : {W : Type 0} → LentWriter W → W
lent_writer_of sink = sink.writer.now

abbrev pub lent_has_failed : {W : Type 0} → LentWriter W → Bool
lent_has_failed sink = sink.failed
