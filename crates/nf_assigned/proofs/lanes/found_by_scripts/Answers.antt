use Rattle.nf_assigned.proofs.BlockLemmas.{by_window}
use Rattle.nf_assigned.proofs.lanes.found_by_scripts.Goals as goal

pub returns : goal.returns
returns c =
    let leads = rw c.as_bytes.ensures.value at c.found_leads.ensures in
    by_window c.args.family.now c.args.text.now c.args.at c.found_leads.result c.requires.family leads.leads leads.told
