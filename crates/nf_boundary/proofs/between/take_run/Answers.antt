use Rattle.nf_boundary.proofs.Common.{rules, ◌≡◌, ◌≢◌, ◌++◌, length}
use Rattle.nf_boundary.proofs.PieceLemmas.{stands-seam, closes_run}
use Rattle.nf_boundary.proofs.between.take_run.Goals as goal

pub split_at-requires : goal.split_at-requires
split_at-requires c = search (rules, stands-seam)

pub returns-clause-closes : goal.returns-clause-closes
returns-clause-closes c =
    let run = c.split_at.result.0.now in
    let some : length run ≢ 0 = search rules in
    let grown : c.try_extend_from_slice.new.self.items ≡ c.args.formed.now.items ++ run = search rules in
    search (rules, closes_run)
