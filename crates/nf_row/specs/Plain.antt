-- The data that was seen to leave ASCII text as it is.
use Rattle.nf_row.specs.declared.rows.Rows.{Ghosts}
use Rattle.nf_row.specs.declared.plain.Plain.{Plain}

abbrev pub rows_of : {R : Type 0} {ghosts : Ghosts R} → Plain R ghosts → R
rows_of plain = plain.rows.now
