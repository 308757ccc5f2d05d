use Rattle.nf_utf8.proofs.Common.{◌≡◌, ℕ, ◌+◌, ◌-◌, List, ◌++◌, length, take, drop, arith, length-take, length-drop, length-take-le, take-take, take-append-le, take-append-add}
use Rattle.std.proofs.lemmas.Simd.{put_chunk_whole}
use borrow.Rule.Slice.PartMut.{mid_of, post_of}
use Rattle.nf_utf8.proofs.lossy.put_lanes.Goals as goal

pub returns : goal.returns
returns c n few =
    let at : ℕ = c.args.at in
    let room : List ℕ = c.args.room.now in
    let lanes : List ℕ = take 64 c.args.bytes.now in
    let rest : List ℕ = post_of at (at + 64 - at) room in
    let size : length (take at room) ≡ at = length-take-le at room (omega (arith, c.requires.fits, c.told-room)) in
    let many : length lanes ≡ 64 = length-take-le 64 c.args.bytes.now c.requires.bytes in
    let same = put_chunk_whole (mid_of at (at + 64 - at) room) lanes (omega (arith, many, length-take (at + 64 - at) (drop at room), length-drop at room, c.requires.fits, c.told-room)) in
    rw same (rw (take-append-le n lanes rest (omega (arith, many, few)), take-take n 64 c.args.bytes.now few) at (rw size at (take-append-add (take at room) (lanes ++ rest) n)))
