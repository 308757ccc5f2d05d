use Rattle.nf_boundary.proofs.Common.{rules}
use Rattle.nf_row.specs.Laws.Tables.{row_is}
use Rattle.nf_boundary.proofs.RowLemmas.{row_members}
use Rattle.nf_boundary.proofs.rows.Row.decomposition.Goals as goal

pub returns-then-is_empty : goal.returns-then-is_empty
returns-then-is_empty c = search (rules, row_is)

pub returns-else-is_empty : goal.returns-else-is_empty
returns-else-is_empty c = search (rules, row_members)
