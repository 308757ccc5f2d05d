use Rattle.std.proofs.Common.{◌≡◌, ◌+◌, ◌-◌, length-drop, refl, arith}
use Rattle.std.proofs.lemmas.Bool.Decides.{nat_tests}
use Rattle.nf_counts.proofs.PlainLemmas.{piece_with}
use Rattle.nf_counts.proofs.PieceLemmas.{boundary}
use Rattle.nf_counts.proofs.scan.Scan.pass_both.Goals as goal

pub overflow_add-end : goal.overflow_add-end
overflow_add-end c = omega (arith, (boundary _ _ _ c.requires.piece.begins).0, length-drop c.args.place c.args.self.now.text.now)

pub pass-requires-clause-piece : goal.pass-requires-clause-piece
pass-requires-clause-piece c =
    let len : c.args.place - c.args.self.now.at + c.args.character.len ≡ c.args.place + c.args.character.len - c.args.self.now.at = omega (arith, c.requires.order) in
    rw len at (piece_with c.every_character_is_sound.ensures.character _ _ _ c.args.character _ c.requires.reaches.utf8 (boundary _ _ _ c.requires.reaches.begins) c.requires.boundary c.requires.order c.requires.told c.requires.piece
    (λ none. refl) (λ some. grind (arith, nat_tests)))

pub pass-requires-2-clause-piece : goal.pass-requires-2-clause-piece
pass-requires-2-clause-piece c =
    let len : c.args.place - c.args.self.now.at + c.args.character.len ≡ c.args.place + c.args.character.len - c.args.self.now.at = omega (arith, c.requires.order) in
    rw len at (piece_with c.every_character_is_sound.ensures.character _ _ _ c.args.character c.if-self-place.value c.requires.reaches.utf8 (boundary _ _ _ c.requires.reaches.begins) c.requires.boundary c.requires.order c.requires.told c.requires.piece
    (λ none. grind (arith, nat_tests)) (λ some. grind (arith, nat_tests)))
