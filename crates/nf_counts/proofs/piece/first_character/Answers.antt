use Rattle.std.proofs.Common.{◌≡◌, slice_index, arith}
use Rattle.nf_counts.proofs.PieceLemmas.{HasCode, two_spell, three_spell, first_of, four_is, has_second, boundary, piece_of}
use Rattle.nf_counts.proofs.Told.{valued-mark}
use Rattle.nf_counts.proofs.piece.first_character.Goals as goal
use Rattle.nf_counts.proofs.piece.first_character.Goals.{After-value-value-2, then-lead-ge224, else-lead-ge224}

pub bounds-bytes-1 : goal.bounds-bytes-1
bounds-bytes-1 c = rw c.as_bytes-bytes.ensures.value (has_second c.args.text.now (first_of c.args.text.now c.utf8.text c.requires.high))

pub bounds-bytes-3 : goal.bounds-bytes-3
bounds-bytes-3 c = let here = (first_of c.args.text.now c.utf8.text c.requires.high).four (rw c.as_bytes-bytes.ensures.value at c.if-lead-ge240.true) in rw c.as_bytes-bytes.ensures.value (omega (arith, (boundary _ _ _ here.begins).0))

pub returns-then-lead : goal.returns-then-lead
returns-then-lead c =
    let text = c.args.text.now in
    let lead : slice_index text 0 ≡ 0xCC = rw c.as_bytes-bytes.ensures.value at c.if-lead.true in
    let here = (first_of text c.utf8.text c.requires.high).two (omega (arith, lead)) in
    record {
      piece = piece_of here (omega arith) (omega arith) (valued-mark (two_spell text) (c.every_character_is_sound.ensures.character _) (omega (arith, lead)));
      one = here.one;
    }

pub value-value-requires : goal.value-value-requires
value-value-requires c =
    let bytes = c.as_bytes-bytes.ensures.value in
    let here = (first_of c.args.text.now c.utf8.text c.requires.high).four (rw bytes at c.if-lead-ge240.true) in
    rw (four_is c.args.text.now c.from.result c.from-2.result c.from-3.result c.from-then-lead-ge240.result (grind (arith, bytes)) (grind (arith, bytes)) (grind (arith, c.requires.third, (boundary _ _ _ here.begins).0)) (grind (arith, bytes))) here.fits

pub returns-then-lead-ge240 : goal.returns-then-lead-ge240
returns-then-lead-ge240 c =
    let bytes = c.as_bytes-bytes.ensures.value in
    let here = (first_of c.args.text.now c.utf8.text c.requires.high).four (rw bytes at c.if-lead-ge240.true) in
    record {
      piece = piece_of here (omega arith) c.value-value.ensures.within
          (rw (four_is c.args.text.now c.from.result c.from-2.result c.from-3.result c.from-then-lead-ge240.result (grind (arith, bytes)) (grind (arith, bytes)) (grind (arith, c.requires.third, (boundary _ _ _ here.begins).0)) (grind (arith, bytes))) at c.value-value.ensures.valued);
      one = here.one;
    }

character : (c : After-value-value-2) → HasCode c.args.text.now c.if-lead-ge224.len.0 c.if-lead-ge224.len.1
character c =
    let text = c.args.text.now in
    let bytes = c.as_bytes-bytes.ensures.value in
    let first = first_of text c.utf8.text c.requires.high in
    elim c.if-lead-ge224.branch [
      | then-lead-ge224 w ↦
          let here = first.three (rw bytes at w.if-lead-ge224.true) (grind (arith, bytes, c.if-lead-ge240.false)) in
          let is : (c.if-lead-ge224.len.0 ≡ 3) × (c.if-lead-ge224.len.1 ≡ three_spell text) = grind (arith, bytes, c.requires.third, (boundary _ _ _ here.begins).0) in
          rw (is.0, is.1) here
      | else-lead-ge224 w ↦
          let is : (c.if-lead-ge224.len.0 ≡ 2) × (c.if-lead-ge224.len.1 ≡ two_spell text) = grind (arith, bytes) in
          rw (is.0, is.1) (first.two (grind (arith, bytes, w.if-lead-ge224.false)))
    ]

pub returns : goal.returns
returns c = record { piece = piece_of (character c) (grind arith) c.value-value-2.ensures.within c.value-value-2.ensures.valued; one = (character c).one }
