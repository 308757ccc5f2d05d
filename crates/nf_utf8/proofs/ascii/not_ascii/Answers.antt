use Rattle.nf_utf8.proofs.Common.{leb, replicate, ◌∙◌, arith, w8, tops_compared, zip2_splat_left}
use Rattle.nf_utf8.proofs.AsciiLemmas.{is_other, mask_is}
use Rattle.nf_utf8.proofs.ascii.not_ascii.Goals as goal

pub returns : goal.returns
returns c =
    let lanes = c.args.lanes in
    mask_is is_other lanes _ (omega (arith, c.fits-lanes.0)) (tops_compared w8 leb (replicate 16 0x80) lanes ∙ zip2_splat_left leb 0x80 16 lanes c.fits-lanes.0)
