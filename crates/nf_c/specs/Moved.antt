-- What a call tells.
use Rattle.std.specs.Prelude.{ℕ, ◌-◌, min, Option, Some, None}
use Rattle.nf_filter.specs.declared.fault.Fault.{Fault}
use Rattle.nf_filter.specs.declared.fault.Fault.TheVariants.{Spent, TooLong, Read, Write, Row, BadByte, Cut, Unassigned}
use Rattle.nf_c.specs.declared.status.Status.{Status}
use Rattle.nf_c.specs.declared.status.Status.TheVariants.{Done}
use Rattle.nf_c.specs.declared.moved.Moved.{Moved}
use Rattle.nf_c.specs.Status.{status_of, at_of, start_of}

abbrev pub moved : Status → ℕ → ℕ → Moved
moved status read written = record { status = status; read = read; written = written; at = 0; start = 0 }

-- how many bytes of the input, which begins at the offset, stand before a fault that is in it; of another end, so many were read
abbrev pub read_before : Option Fault → ℕ → ℕ → ℕ → ℕ
read_before None offset len read = read
read_before (Some Spent) offset len read = read
read_before (Some TooLong) offset len read = read
read_before (Some Read) offset len read = read
read_before (Some Write) offset len read = read
read_before (Some (Row at)) offset len read = read
read_before (Some (BadByte at start)) offset len read = min (at - offset) len
read_before (Some (Cut at start)) offset len read = read
read_before (Some (Unassigned at)) offset len read = min (at - offset) len

abbrev pub ended : Option Fault → ℕ → ℕ → Moved
ended None read written = moved Done read written
ended (Some fault) read written = record { status = status_of fault; read = read; written = written; at = at_of fault; start = start_of fault }
