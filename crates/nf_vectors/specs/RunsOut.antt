-- Where memory runs out over a vector file.
use Rattle.std.specs.Prelude.{◌≡◌, true, Bool, ℕ, ◌≤◌, List, [], ◌++◌, length, Some}
use Rattle.nf_vectors.specs.declared.fault.VectorFault.{VectorFault}
use Rattle.nf_vectors.specs.declared.fault.VectorKind.TheVariants.{Memory}
use Rattle.nf_vectors.specs.Limits.{limit, block}
use Rattle.nf_vectors.specs.Line.{lines_of}
use Rattle.nf_vectors.specs.Suite.{first_fault}

-- memory ran out after some of what the source gave
pub record RunsOut (bytes : List ℕ) (at_end : Bool) (fault : VectorFault) : Type 0 where
  -- what was read, and what was not: some of the last block, and at the end nothing
  pub read : List ℕ
  pub rest : List ℕ
  pub is : bytes ≡ read ++ rest
  pub within : length read ≤ limit
  pub last : length rest ≤ block
  pub end : at_end ≡ true → rest ≡ []
  -- the fault is the first, were it memory that stops the reading here: in the last line that was read, none before it bad
  pub first : first_fault 1 (Some Memory) (lines_of read) ≡ Some fault
