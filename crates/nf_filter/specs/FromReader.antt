-- A reader as a source.
use Rattle.std.specs.Prelude.{Bool}
use Rattle.nf_filter.specs.declared.from_reader.FromReader.{FromReader}
use Rattle.nf_filter.specs.declared.from_reader.LentReader.{LentReader}

abbrev pub reader_of : {R : Type 0} → FromReader R → R
reader_of source = source.reader

abbrev pub has_failed : {R : Type 0} → FromReader R → Bool
has_failed source = source.stands.failed

abbrev pub has_ended : {R : Type 0} → FromReader R → Bool
has_ended source = source.stands.at_end

-- one that was lent
abbrev pub lent_reader_of : {R : Type 0} → LentReader R → R
lent_reader_of source = source.reader.now

abbrev pub lent_has_failed : {R : Type 0} → LentReader R → Bool
lent_has_failed source = source.stands.failed

abbrev pub lent_has_ended : {R : Type 0} → LentReader R → Bool
lent_has_ended source = source.stands.at_end
