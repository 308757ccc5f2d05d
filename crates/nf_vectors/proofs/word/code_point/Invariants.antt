use Rattle.nf_vectors.proofs.Common.{◌^◌, ◌≡◌, ◌+◌, ◌≤◌, true, take, list_all, is_digit, value_of}
use Rattle.nf_vectors.proofs.word.code_point.Given as goal

abbrev pub invariant-loop-byte : goal.invariant-loop-byte
invariant-loop-byte l = record {
  value : l.value ≡ value_of (take l.byte-index l.word);
  digits : list_all is_digit (take l.byte-index l.word) ≡ true;
  bound : l.value + 1 ≤ 16 ^ l.byte-index;
}
