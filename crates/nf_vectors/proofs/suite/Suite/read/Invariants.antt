use Rattle.nf_vectors.proofs.Common.{◌≡◌, ◌-◌, ℕ, List, length, Consumes, StandsAfter, IsWithin}
use Rattle.nf_vectors.proofs.suite.Suite.read.Given as goal

abbrev pub invariant-loop-given : goal.invariant-loop-given
invariant-loop-given g l = record {
  room : length l.block ≡ 4096;
  within : IsWithin l.reading;
  read : (bytes : List ℕ) × Consumes (g.I.Source.state l.fn.source).coming (g.I.Source.state l.source).coming bytes × StandsAfter l.reading bytes;
  lender : (g.I.Source.state l.source).lender ≡ (g.I.Source.state l.fn.source).lender;
}

abbrev pub decreases-loop-given : goal.decreases-loop-given
decreases-loop-given g l = 67108865 - l.reading.taken
