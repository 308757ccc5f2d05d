-- Which faults a call may answer.
use Rattle.std.specs.Prelude.{Bool, true, false, ℕ, ◌==◌, List}
use Rattle.std.specs.List.{list_any}
use Rattle.nf_filter.specs.declared.fault.Fault.{Fault}
use Rattle.nf_filter.specs.declared.fault.Fault.TheVariants.{Spent, TooLong, Read, Write, Row, BadByte, Cut, Unassigned}

-- the kinds of fault, numbered
abbrev pub spent : ℕ
spent = 0

abbrev pub too_long : ℕ
too_long = 1

abbrev pub read : ℕ
read = 2

abbrev pub write : ℕ
write = 3

abbrev pub row : ℕ
row = 4

abbrev pub ill_formed : ℕ
ill_formed = 5

abbrev pub cut : ℕ
cut = 6

abbrev pub unassigned : ℕ
unassigned = 7

abbrev pub kind : Fault → ℕ
kind Spent = spent
kind TooLong = too_long
kind Read = read
kind Write = write
kind (Row at) = row
kind (BadByte at start) = ill_formed
kind (Cut at start) = cut
kind (Unassigned at) = unassigned

abbrev pub Holds : Bool → Type 0
Holds true = Unit {0}
Holds false = ⊥

-- it is of one of these kinds
abbrev pub IsAmong : List ℕ → Fault → Type 0
IsAmong kinds fault = Holds (list_any (λ k. k == kind fault) kinds)
