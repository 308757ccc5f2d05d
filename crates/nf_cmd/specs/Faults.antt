-- The library's faults, as the program tells them.
use Rattle.std.specs.Prelude.{ℕ, Option, Some, None}
use Rattle.nf_filter.specs.declared.fault.Fault.{Fault as Found}
use Rattle.nf_filter.specs.declared.fault.Fault.TheVariants as found
use Rattle.nf_cmd.specs.declared.fault.Fault.{Fault}
use Rattle.nf_cmd.specs.declared.fault.Fault.TheVariants.{Row, BadByte, Cut, Unassigned, Read, Write, Memory, TooLong, Line}
use Rattle.nf_cmd.specs.declared.fault.LineFault.TheVariants as line
use Rattle.nf_vectors.specs.declared.fault.VectorFault.{VectorFault}
use Rattle.nf_vectors.specs.declared.fault.VectorKind.{VectorKind}
use Rattle.nf_vectors.specs.declared.fault.VectorKind.TheVariants as kind

-- a filter that is used once is never spent
abbrev pub told : Found → Option Fault
told found.Spent = None
told found.TooLong = Some TooLong
told found.Read = Some Read
told found.Write = Some Write
told (found.Row at) = Some (Row at)
told (found.BadByte at start) = Some (BadByte at start)
told (found.Cut at start) = Some (Cut at start)
told (found.Unassigned at) = Some (Unassigned at)

-- a vector file that was refused, at this line
abbrev pub told_at : ℕ → VectorKind → Fault
told_at n kind.Fields = Line n line.Fields
told_at n kind.Empty = Line n line.Empty
told_at n kind.Hex = Line n line.Hex
told_at n kind.Scalar = Line n line.Scalar
told_at n kind.Size = TooLong
told_at n kind.Read = Read
told_at n kind.Memory = Memory

abbrev pub told_of_file : VectorFault → Fault
told_of_file fault = told_at fault.line fault.kind
