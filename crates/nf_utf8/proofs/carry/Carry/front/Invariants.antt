use Rattle.nf_utf8.proofs.Common.{◌≡◌, ◌++◌, take, IsSubpart, bytes_of}
use Rattle.nf_utf8.proofs.carry.Carry.front.Given as goal

abbrev pub invariant-loop-at : goal.invariant-loop-at
invariant-loop-at l = record {
  held : bytes_of l.carry ≡ bytes_of l.fn.self ++ take l.at l.bytes;
  part : IsSubpart (bytes_of l.carry);
}
