use Rattle.nf_utf8.proofs.Common.{leb, replicate, sym, ◌∙◌, eqb-true, arith, w8, tops_compared, zip2_splat_left}
use Rattle.nf_utf8.proofs.AsciiLemmas.{is_other, mask_is}
use Rattle.nf_utf8.proofs.ascii.is_ascii.Goals as goal

pub returns : goal.returns
returns c = λ none.
    let block = c.args.block in
    sym (mask_is is_other block _ (omega (arith, c.fits-block.0)) (tops_compared w8 leb (replicate 64 0x80) block ∙ zip2_splat_left leb 0x80 64 block c.fits-block.0)) ∙ eqb-true _ 0 none
