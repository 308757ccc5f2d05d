-- What the program says at its end: the status, and a line on standard error.
use Rattle.std.specs.Prelude.{ℕ, List, [], ◌∷◌, ◌++◌, Result, Ok, Err, codes, decimal}
use Rattle.nf_cmd.specs.declared.fault.Fault.{Fault}
use Rattle.nf_cmd.specs.declared.fault.Fault.TheVariants.{Row, BadByte, Cut, Unassigned, Read, Write, Memory, TooLong, Line}
use Rattle.nf_cmd.specs.declared.fault.LineFault.{LineFault}
use Rattle.nf_cmd.specs.declared.fault.LineFault.TheVariants.{Fields, Empty, Hex, Scalar}

abbrev pub fault_status : Fault → ℕ
fault_status (Row at) = 3
fault_status (Unassigned at) = 3
fault_status (BadByte at start) = 3
fault_status (Cut at start) = 3
fault_status Read = 4
fault_status Write = 4
fault_status Memory = 5
fault_status TooLong = 6
fault_status (Line n fault) = 3

-- that of a run that ended with this status, or by this fault
abbrev pub status_of : Result ℕ Fault → ℕ
status_of (Ok status) = status
status_of (Err f) = fault_status f

abbrev pub line_message_of : LineFault → List ℕ
line_message_of Fields = codes "fields"
line_message_of Empty = codes "empty"
line_message_of Hex = codes "hex"
line_message_of Scalar = codes "scalar"

abbrev pub message_of : Fault → List ℕ
message_of (Row at) = codes "unsound row at " ++ decimal at
message_of (Unassigned at) = codes "unassigned character at " ++ decimal at
message_of (BadByte at start) = codes "ill-formed byte at " ++ (decimal at ++ (codes ", character begun at " ++ decimal start))
message_of (Cut at start) = codes "input ends at " ++ (decimal at ++ (codes " inside a character begun at " ++ decimal start))
message_of Read = codes "read failed"
message_of Write = codes "write failed"
message_of Memory = codes "out of memory"
message_of TooLong = codes "input too long"
message_of (Line n fault) = codes "line " ++ (decimal n ++ (codes ": " ++ line_message_of fault))

-- the message as a line, and nothing where there is no fault
unfoldable pub line_of : Result ℕ Fault → List ℕ
line_of (Ok status) = []
line_of (Err f) = codes "nfstream: " ++ message_of f ++ 10 ∷ []
