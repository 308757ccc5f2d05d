-- How a call ended, as numbers.
use Rattle.std.specs.Prelude.{ℕ}
use Rattle.nf_filter.specs.declared.fault.Fault.{Fault}
use Rattle.nf_filter.specs.declared.fault.Fault.TheVariants.{Spent as SpentFault, TooLong as TooLongFault, Read, Write, Row, BadByte as BadByteFault, Cut as CutFault, Unassigned as UnassignedFault}
use Rattle.nf_c.specs.declared.status.Status.{Status}
use Rattle.nf_c.specs.declared.status.Status.TheVariants.{Done, NoForm, NoPolicy, Full, BadByte, Cut, Unassigned, Spent, NoState, TooLong, Unsafe, NotNormalized}

abbrev pub code_of : Status → ℕ
code_of Done = 0
code_of NoForm = 1
code_of NoPolicy = 2
code_of Full = 3
code_of BadByte = 4
code_of Cut = 5
code_of Unassigned = 6
code_of Spent = 7
code_of NoState = 8
code_of TooLong = 9
code_of Unsafe = 10
code_of NotNormalized = 11

-- the status of a fault; the sink fails where the output is full, and two faults never come
abbrev pub status_of : Fault → Status
status_of SpentFault = Spent
status_of TooLongFault = TooLong
status_of Read = NoState
status_of Write = Full
status_of (Row at) = NoState
status_of (BadByteFault at start) = BadByte
status_of (CutFault at start) = Cut
status_of (UnassignedFault at) = Unassigned

-- its places, and 0 where it has none
abbrev pub at_of : Fault → ℕ
at_of SpentFault = 0
at_of TooLongFault = 0
at_of Read = 0
at_of Write = 0
at_of (Row at) = at
at_of (BadByteFault at start) = at
at_of (CutFault at start) = at
at_of (UnassignedFault at) = at

abbrev pub start_of : Fault → ℕ
start_of SpentFault = 0
start_of TooLongFault = 0
start_of Read = 0
start_of Write = 0
start_of (Row at) = at
start_of (BadByteFault at start) = start
start_of (CutFault at start) = start
start_of (UnassignedFault at) = at
