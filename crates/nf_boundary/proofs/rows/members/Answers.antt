use Rattle.nf_boundary.proofs.Common.{rules}
use Rattle.nf_boundary.proofs.RowLemmas.{table_row}
use Rattle.nf_boundary.proofs.rows.members.Goals as goal

pub returns : goal.returns
returns c = search (rules, table_row)
