use Rattle.std.proofs.Common.{ap}
use Rattle.std.specs.List.{list_all}
use Rattle.std.proofs.lemmas.Str.{chars-nil, IsCharBoundary-start}
use Rattle.nf_forms.specs.Ucd.{ucd}
use Rattle.nf_filter.proofs.taking.assigned_front.Goals as goal

pub returns-then-is_ucd-clause-assigned : goal.returns-then-is_ucd-clause-assigned
unfolding ucd
returns-then-is_ucd-clause-assigned g c = rw (c.is_ucd.ensures c.if-is_ucd.true) c.assigned_front.ensures.assigned

pub returns-else-is_ucd-clause-boundary : goal.returns-else-is_ucd-clause-boundary
returns-else-is_ucd-clause-boundary g c = IsCharBoundary-start c.args.text.now c.utf8.text

pub returns-else-is_ucd-clause-assigned : goal.returns-else-is_ucd-clause-assigned
returns-else-is_ucd-clause-assigned g c = ap (list_all (g.R.Rows.properties c.args.rows.now).assigned) chars-nil
