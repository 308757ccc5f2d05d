use Rattle.nf_boundary.proofs.Common.{rules, ◌≡◌, ℕ, ◌+◌, ◌<◌, length, List, ◌++◌, take, get_or, encode_utf8, encode_utf8_all, append-nil, append_assoc, take_more, encodes-append}
use Rattle.nf_boundary.proofs.encoding.put_utf8.Goals as goal

one_more : (before old new items : List ℕ) (i c : ℕ) → i < length items → c ≡ get_or items i c
    → old ≡ before ++ encode_utf8_all (take i items) → new ≡ old ++ encode_utf8 c → new ≡ before ++ encode_utf8_all (take (i + 1) items)
one_more before old new items i c within is so_far after =
    rw (take_more items i c within, ← is, encodes-append, append-nil (encode_utf8 c), ← append_assoc before, ← so_far) after

pub loop-c-preserved : goal.loop-c-preserved
loop-c-preserved g c = search (rules, one_more)
