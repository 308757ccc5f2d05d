use Rattle.std.proofs.Common.{◌≡◌, rules, arith}
use Rattle.nf_forms.specs.Forms.{row_of}
use Rattle.nf_forms.specs.Ucd.{ucd}
use Rattle.nf_row.specs.Laws.Tables.{row_is}
use Rattle.nf_row.proofs.lending.row_of.Goals as goal

pub returns-then-is_ucd-clause-row : goal.returns-then-is_ucd-clause-row
returns-then-is_ucd-clause-row g c =
    rw (c.is_ucd.ensures c.if-is_ucd.true) (let row : c.decomposition.result.now ≡ row_of c.args.form ucd c.args.c = search (rules, row_is) in (row, c.decomposition.ensures.len.1))

pub returns-then-is_ucd-clause-long : goal.returns-then-is_ucd-clause-long
returns-then-is_ucd-clause-long g c =
    let row = (returns-then-is_ucd-clause-row g c).0 in
    let few = c.decomposition.ensures.len.1 in
    grind (arith, row, few)
