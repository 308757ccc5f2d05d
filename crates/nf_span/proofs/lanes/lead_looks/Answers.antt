use Rattle.std.proofs.Common.{get_or}
use Rattle.nf_span.specs.Leads.{lead_bits}
use Rattle.nf_span.proofs.LookLemmas.{by_lead}
use Rattle.nf_span.proofs.lanes.lead_looks.Goals as goal

pub returns : goal.returns
returns c = rw (c.bits.ensures.each (λ k. lead_bits c.args.form (get_or c.args.bytes.now k 0)) c.args.at c.leads.ensures) (by_lead c.args.form c.args.bytes.now c.args.at)
