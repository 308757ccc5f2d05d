use Rattle.std.proofs.Common.{◌≡◌, ◌++◌, ◌∙◌, ap, refl, sym, append_assoc}
use Rattle.nf_filter.proofs.WritesLemmas.{Broken-extends, Written-more}
use Rattle.nf_filter.proofs.block.Block.push_form.Goals as goal

pub returns-in-Err-clause-writes : goal.returns-in-Err-clause-writes
returns-in-Err-clause-writes g c = λ start w written.
    Broken-extends start (record { more = c.args.formed.now.items; text = sym (append_assoc w c.args.same.now c.args.formed.now.items) }) (c.in-Err.ensures.writes start w written)

pub returns-in-Err-make_room-clause-writes : goal.returns-in-Err-make_room-clause-writes
returns-in-Err-make_room-clause-writes g c = λ start w written.
    rw (← append_assoc w c.args.same.now c.args.formed.now.items)
    (Broken-extends start (record { more = c.args.formed.now.items; text = refl }) (c.in-Err-make_room.ensures.writes start (w ++ c.args.same.now) (c.in_default.ensures.writes start w written)))

pub returns-clause-writes : goal.returns-clause-writes
returns-clause-writes g c = λ start w written.
    let grown : c.try_extend_from_slice.new.self.items ≡ c.make_room.new.self.room.items ++ c.args.formed.now.items = (rw c.unwrap.ensures at c.try_extend_from_slice.ensures.ok) ∙ ap (λ t. c.make_room.new.self.room.items ++ t) c.as_slice.ensures.value in
    rw (← append_assoc w c.args.same.now c.args.formed.now.items)
    (Written-more c.args.formed.now.items grown (c.in_default-make_room.ensures.writes start (w ++ c.args.same.now) (c.in_default.ensures.writes start w written)))
