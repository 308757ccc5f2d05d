use Rattle.nf_vectors.proofs.Common.{◌≡◌, ◌+◌, ℕ, List, ◌++◌, take, StandsAfter, IsWithin}
use Rattle.nf_vectors.proofs.reading.Reading.take.Given as goal

abbrev pub invariant-loop-byte : goal.invariant-loop-byte
invariant-loop-byte l = record {
  within : IsWithin l.self;
  taken : l.self.taken ≡ l.fn.self.taken + l.byte-index;
  stands : (bytes : List ℕ) → StandsAfter l.fn.self bytes → StandsAfter l.self (bytes ++ take l.byte-index l.piece);
}
