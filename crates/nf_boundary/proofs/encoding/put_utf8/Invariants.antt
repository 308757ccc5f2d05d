use Rattle.nf_boundary.proofs.Common.{◌≡◌, ◌+◌, ◌≤◌, ◌*◌, ◌++◌, length, take, encode_utf8_all}
use Rattle.nf_boundary.proofs.encoding.put_utf8.Given as goal

abbrev pub invariant-loop-c : goal.invariant-loop-c
invariant-loop-c g l = record {
  text : l.room.items ≡ l.fn.room.items ++ encode_utf8_all (take l.c-index l.characters);
  few : length l.room.items ≤ length l.fn.room.items + 4 * l.c-index;
}
