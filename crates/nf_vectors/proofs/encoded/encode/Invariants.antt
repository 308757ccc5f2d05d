use Rattle.nf_vectors.proofs.Common.{◌≡◌, take, string_bytes, encode_utf8_all}
use Rattle.nf_vectors.proofs.encoded.encode.Given as goal

abbrev pub invariant-loop-c : goal.invariant-loop-c
invariant-loop-c l = string_bytes l.out ≡ encode_utf8_all (take l.c-index l.column)
