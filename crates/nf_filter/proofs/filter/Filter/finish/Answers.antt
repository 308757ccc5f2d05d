use Rattle.nf_filter.proofs.Common.{[], Ok, sym, ap, ◌∙◌, arith, append-nil, settled_text, whole_under}
use Rattle.nf_filter.proofs.FilterLemmas.{StandsAfter-offset, read_before, no_fault_before}
use Rattle.nf_filter.proofs.WritesLemmas.{start_at, WritesTo-written}
use Rattle.nf_filter.proofs.AgainLemmas.{joins_pieces}
use Rattle.nf_filter.proofs.FinishLemmas.{Finishes-of}
use Rattle.nf_filter.proofs.filter.Filter.finish.Goals as goal

pub returns-in-Err-clause-finishes : goal.returns-in-Err-clause-finishes
returns-in-Err-clause-finishes g c = λ policy f bytes stands.
    rw (← stands.policy_is) (c.in-Err.ensures.closes f c.args.self.state.base bytes (read_before stands))

pub returns-in-Ok-clause-finishes : goal.returns-in-Ok-clause-finishes
returns-in-Ok-clause-finishes g c = λ policy f bytes stands.
    let closes = c.in_default.ensures.closes f c.args.self.state.base bytes (read_before stands) in
    let given = settled_text f (g.R.Rows.properties c.args.self.rows.now) (whole_under c.args.self.state.policy.replace bytes) in
    let holds = c.settle.ensures.settles f _ (record { given = given; ahead = [] }) closes.0.machine (record { text = rw c.new-block.ensures.empty (sym (append-nil given)) }) in
    let all = c.in-Ok.ensures.gives (start_at _ _) _ (WritesTo-written (λ e. cc) (record { given = given; puts = closes.1; text = holds.text })) in
    rw (← stands.policy_is) (Finishes-of _ (λ e. cc) (λ _. (rw closes.3 (all.given (λ e. cc)).0, ap Ok (grind (arith, StandsAfter-offset stands)) ∙ sym closes.2)))

pub returns-in-Err-close-clause-finishes : goal.returns-in-Err-close-clause-finishes
returns-in-Err-close-clause-finishes g c = λ policy f bytes stands.
    let closes = c.in_default.ensures.closes f c.args.self.state.base bytes (read_before stands) in
    let given = settled_text f (g.R.Rows.properties c.args.self.rows.now) (whole_under c.args.self.state.policy.replace bytes) in
    let holds = c.settle.ensures.settles f _ (record { given = given; ahead = [] }) closes.0.machine (record { text = rw c.new-block.ensures.empty (sym (append-nil given)) }) in
    let all = c.in-Err-close.ensures.gives (start_at _ _) _ (WritesTo-written (λ e. cc) (record { given = given; puts = closes.1; text = holds.text })) in
    rw (← stands.policy_is) (Finishes-of _ (λ e. rw closes.3 (all.broken cc)) (λ not. cc (all.given (λ e. not cc)).1))

pub returns-in-Ok-clause-again : goal.returns-in-Ok-clause-again
returns-in-Ok-clause-again g c = λ policy f bytes stands once.
    let closes = c.in_default.ensures.closes f c.args.self.state.base bytes (read_before stands) in
    rw (← stands.policy_is) (c.what_was_finished_stays.ensures _ f _ _ _ _ once closes.2)

pub returns-in-Ok-clause-joined : goal.returns-in-Ok-clause-joined
returns-in-Ok-clause-joined g c = λ policy f bytes stands.
    let closes = c.in_default.ensures.closes f c.args.self.state.base bytes (read_before stands) in
    rw (← stands.policy_is) (joins_pieces _ _ _ _ _ f (no_fault_before stands) closes.2)
