use Rattle.std.proofs.Common.{◌<◌, arith}
use Rattle.std.proofs.lemmas.List.{get_or-take}
use Rattle.std.proofs.lemmas.Str.{IsUtf8-from_ascii, IsCharBoundary-from_take}
use Rattle.std.proofs.lemmas.Bool.Decides.{nat_tests}
use Rattle.nf_counts.proofs.PlainLemmas.{plain_piece}
use Rattle.nf_counts.proofs.piece.first_piece.Goals as goal

pub returns : goal.returns
returns c =
    let text = c.as_bytes-bytes.ensures in
    let prefix = c.ascii_prefix.ensures in
    let bytes = c.as_bytes-bytes.result.now in
    let len = c.ascii_prefix.result in
    let some : 0 < len = grind (arith, nat_tests, prefix.longest) in
    rw (← text.value) (plain_piece c.every_character_is_sound.ensures.character bytes len text.utf8 (IsCharBoundary-from_take bytes len text.utf8 prefix.within (IsUtf8-from_ascii _ prefix.ascii)) some
    (λ k _ inside high. absurd (omega (arith, high, inside, prefix.ascii k, get_or-take len bytes k 0))))
