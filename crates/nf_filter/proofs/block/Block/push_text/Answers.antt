use Rattle.nf_filter.proofs.Common.{◌≡◌, ◌∙◌, ap, ℕ, List, [], ◌++◌, refl, append-nil, append_assoc, Result, Ok, Err, MatchResult, Failed, SinkState, Puts, BreaksOff, Start, BlockState, Written, WritesOn}
use Rattle.nf_filter.proofs.WritesLemmas.{Puts-after, BreaksOff-after, Broken-extends, Written-more}
use Rattle.nf_filter.proofs.block.Block.push_text.Goals as goal

-- past an empty block
passed : (start : Start) (now : BlockState) (sink : SinkState) (w bytes : List ℕ) (r : Result (Unit {0}) Failed) → now.kept ≡ [] → (written : Written start now w) → start.ahead ++ (w ++ bytes) ≡ written.given ++ bytes
    → MatchResult r (λ _. Puts now.sink sink [] bytes) (λ _. BreaksOff now.sink sink [] bytes) → WritesOn start (record { sink = sink; kept = now.kept }) (w ++ bytes) r
passed start now sink w bytes (Ok _) none written whole puts = record { given = written.given ++ bytes; puts = Puts-after refl written.puts puts; text = rw (none, append-nil (written.given ++ bytes)) whole }
passed start now sink w bytes (Err _) none written whole breaks = BreaksOff-after whole written.puts breaks

pub returns-in-Err-clause-writes : goal.returns-in-Err-clause-writes
returns-in-Err-clause-writes g c = λ start w written. Broken-extends _ (record { more = c.args.text.now; text = refl }) (c.in-Err.ensures.writes start w written)

pub returns-clause-writes : goal.returns-clause-writes
returns-clause-writes g c = λ start w written.
    let none = c.in_default.ensures.none in
    let before = c.in_default.ensures.writes start w written in
    passed start _ _ w c.args.text.now c.put_all.result none before (rw (← append_assoc start.ahead w c.args.text.now, before.text, none, append-nil before.given)) (rw c.as_bytes-2.ensures.value at c.put_all.ensures.puts)

pub returns-then-text-len-clause-writes : goal.returns-then-text-len-clause-writes
returns-then-text-len-clause-writes g c = λ start w written.
    let grown : c.try_extend_from_slice.new.self.items ≡ c.args.self.now.room.items ++ c.args.text.now = (rw c.unwrap.ensures at c.try_extend_from_slice.ensures.ok) ∙ ap (λ t. c.args.self.now.room.items ++ t) c.as_bytes.ensures.value in
    Written-more c.args.text.now grown written
