use Rattle.nf_utf8.proofs.Common.{◌≡◌, ◌≤◌, take, is_char_start, count_by}
use Rattle.nf_utf8.proofs.counting.starts_by_bytes.Given as goal

abbrev pub invariant-loop-byte : goal.invariant-loop-byte
invariant-loop-byte l = record {
  counted : l.count ≡ count_by is_char_start (take l.byte-index l.bytes);
  few : l.count ≤ l.byte-index;
}
