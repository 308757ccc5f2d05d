use Rattle.std.proofs.Common.{sym}
use Rattle.nf_filter.proofs.FilterLemmas.{read_before, no_fault_before}
use Rattle.nf_filter.proofs.filter.Filter.feed.Goals as goal

pub returns-in-Ok-clause-feeds : goal.returns-in-Ok-clause-feeds
returns-in-Ok-clause-feeds g c = λ policy f bytes stands short.
    rw (← stands.policy_is) (c.in-Ok.ensures.feeds f c.args.self.now.state.base bytes (read_before stands) (no_fault_before stands)).0

pub returns-in-Ok-clause-stands : goal.returns-in-Ok-clause-stands
returns-in-Ok-clause-stands g c = λ policy f bytes stands.
    let both = c.in-Ok.ensures.feeds f c.args.self.now.state.base bytes (read_before stands) (no_fault_before stands) in
    record {
      unspent = stands.unspent;
      policy_is = stands.policy_is;
      reading = rw (← stands.policy_is) both.1;
      no_fault = rw (← stands.policy_is) (sym (both.0.answer (λ e. cc)));
    }

pub returns-in-Err-clause-feeds : goal.returns-in-Err-clause-feeds
returns-in-Err-clause-feeds g c = λ policy f bytes stands short.
    rw (← stands.policy_is) (c.in-Err.ensures.feeds f c.args.self.now.state.base bytes (read_before stands) (no_fault_before stands)).0
