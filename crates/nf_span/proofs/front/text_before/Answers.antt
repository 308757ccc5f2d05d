use Rattle.std.proofs.Common.{◌≡◌, ◌-◌, length, refl, ap, arith, length-append}
use Rattle.std.proofs.Math.Seq.{take-append_seam, drop-append_seam}
use Rattle.std.proofs.lemmas.Str.{IsCharBoundary-at_seam}
use Rattle.nf_span.proofs.front.text_before.Goals as goal

pub split_at-requires : goal.split_at-requires
split_at-requires c =
    let here = c.requires.reaches in
    let end : length c.args.text.now - length c.args.end.scan.rest.now ≡ length here.front = omega (arith, ap length here.split, length-append here.front c.args.end.scan.rest.now) in
    rw end (IsCharBoundary-at_seam c.args.text.now here.front c.args.end.scan.rest.now here.split here.rest_utf8)

pub returns : goal.returns
returns c =
    let here = c.requires.reaches in
    let rest = c.args.end.scan.rest.now in
    let end : length c.args.text.now - length rest ≡ length here.front = omega (arith, ap length here.split, length-append here.front rest) in
    rw (c.split_at.ensures.front, c.split_at.ensures.back, end, here.split, take-append_seam here.front rest, drop-append_seam here.front rest) (record {
      span = record { text = refl; class = c.args.end.scan.marks.class; count = c.args.end.scan.marks.count; is_span = here.span; sound = c.every_character_is_sound.ensures.text _ };
      next = c.requires.next;
    })
