use Rattle.nf_counts.proofs.PlainLemmas.{piece_between}
use Rattle.nf_counts.proofs.PieceLemmas.{boundary}
use Rattle.nf_counts.proofs.scan.Scan.pass_plain.Goals as goal

pub pass-requires-clause-piece : goal.pass-requires-clause-piece
pass-requires-clause-piece c =
    piece_between c.every_character_is_sound.ensures.character _ _ _ c.requires.reaches.utf8 (boundary _ _ _ c.requires.reaches.begins) c.requires.boundary c.if-self-place.true c.requires.told
