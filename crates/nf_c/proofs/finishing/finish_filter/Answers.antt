use Rattle.std.proofs.Common.{rules}
use Rattle.nf_c.proofs.FinishesLemmas.{FinishesFilter-from}
use Rattle.nf_c.proofs.finishing.finish_filter.Goals as goal

pub returns-clause-finishes : goal.returns-clause-finishes
returns-clause-finishes c = λ policy f bytes stands.
    rw c.err-fault.ensures.value (FinishesFilter-from c.finish.new.sink c.written.result c.over-room.ensures.state (search rules) c.written.ensures.taken (c.finish.ensures.finishes policy f bytes stands) c.finish.ensures.faults
    (λ e. let spent = c.finish.ensures.spent.0 e in let unspent = stands.unspent in cc) c.every_character_is_sound.ensures.character)
