use Rattle.nf_utf8.proofs.Common.{sym, arith, length-take-le, take-take, IsUtf8-from_ascii}
use Rattle.nf_utf8.proofs.lossy.put_stretch.Goals as goal

pub slice_bounds-ascii_prefix-end : goal.slice_bounds-ascii_prefix-end
slice_bounds-ascii_prefix-end c = sym (length-take-le 64 c.args.bytes.now (omega arith))

pub ascii_stretch-requires-clause-few : goal.ascii_stretch-requires-clause-few
ascii_stretch-requires-clause-few c = omega (arith, length-take-le 64 c.args.bytes.now (omega arith))

pub ascii_stretch-requires-clause-utf8 : goal.ascii_stretch-requires-clause-utf8
ascii_stretch-requires-clause-utf8 c =
    let ascii = c.ascii_prefix-ascii in
    rw (take-take ascii.result 64 c.args.bytes.now (omega (arith, length-take-le 64 c.args.bytes.now (omega arith)))) at (IsUtf8-from_ascii _ ascii.ensures.ascii)
