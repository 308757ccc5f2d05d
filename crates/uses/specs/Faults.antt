-- The faults of text that stands in memory, over Unicode's data.
use Rattle.std.specs.Prelude.{[], ◌∷◌}
use Rattle.nf_filter.specs.declared.fault.Fault.{Fault}
use Rattle.nf_filter.specs.Kinds.{write, ill_formed, cut, IsAmong}

-- want of memory, or where the bytes are no UTF-8
abbrev pub IsOfMemory : Fault → Type 0
IsOfMemory = IsAmong (write ∷ ill_formed ∷ cut ∷ [])
