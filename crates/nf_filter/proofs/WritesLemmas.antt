-- Calls that give to a sink in turn, and what is written through a block.
use Rattle.nf_filter.proofs.Common.{◌≡◌, ℕ, ◌<◌, true, List, [], ◌++◌, length, refl, sym, ◌∙◌, arith, append_assoc, append-nil, length-append, Appends, Appends-nil, Appends-trans, SinkState, Puts, BreaksOff, Extends, Start, BlockState, Written, WritesTo, Result, Err, Fault, Write}

pub Puts-none : (state : SinkState) (before : List ℕ) → Puts state state before before
Puts-none state before = record { out = []; after = sym (append-nil before); given = Appends-nil state.taken; stands = refl; idle = λ _. refl }

-- one call more
pub Puts-more : {old mid new : SinkState} {before after : List ℕ} (ys : List ℕ) → Puts old mid before after → Appends mid.taken new.taken ys
    → new.is_failed ≡ mid.is_failed → (mid.is_failed ≡ true → ys ≡ []) → Puts old new before (after ++ ys)
Puts-more {old} {mid} {new} {before} {after} ys first given stands idle = record {
  out = first.out ++ ys;
  after = simp (first.after, append_assoc);
  given = Appends-trans old.taken mid.taken new.taken first.out ys first.given given;
  stands = stands ∙ first.stands;
  idle = λ failed. rw (first.idle failed) (idle (first.stands ∙ failed));
}

pub BreaksOff-more : {old mid new : SinkState} {before after : List ℕ} (ys rest : List ℕ) → Puts old mid before after → Appends mid.taken new.taken ys
    → new.is_failed ≡ true → 0 < length rest → BreaksOff old new before ((after ++ ys) ++ rest)
BreaksOff-more {old} {mid} {new} {before} {after} ys rest first given failed more = record {
  out = first.out ++ ys;
  rest = rest;
  after = simp (first.after, append_assoc);
  more = more;
  given = Appends-trans old.taken mid.taken new.taken first.out ys first.given given;
  failed = failed;
}

pub Puts-join : {old mid new : SinkState} {a b c : List ℕ} → Puts old mid a b → Puts mid new b c → Puts old new a c
Puts-join first second = rw second.after (Puts-more second.out first second.given second.stands second.idle)

pub BreaksOff-join : {old mid new : SinkState} {a b c : List ℕ} → Puts old mid a b → BreaksOff mid new b c → BreaksOff old new a c
BreaksOff-join first second = rw second.after (BreaksOff-more second.out second.rest first second.given second.failed second.more)

-- what was given to a sink after other bytes
pub Puts-after : {old mid new : SinkState} {before after out w : List ℕ} → w ≡ after ++ out → Puts old mid before after → Puts mid new [] out → Puts old new before w
Puts-after is first puts = rw (is, puts.after) (Puts-more puts.out first puts.given puts.stands puts.idle)

pub BreaksOff-after : {old mid new : SinkState} {before after out w : List ℕ} → w ≡ after ++ out → Puts old mid before after → BreaksOff mid new [] out
    → BreaksOff old new before w
BreaksOff-after {after = after} is first stops = rw (is, stops.after, ← append_assoc after stops.out stops.rest) (BreaksOff-more stops.out stops.rest first stops.given stops.failed stops.more)

-- more is to come after
pub BreaksOff-extends : {old new : SinkState} {a b d : List ℕ} → Extends b d → BreaksOff old new a b → BreaksOff old new a d
BreaksOff-extends longer stops = record {
  out = stops.out;
  rest = stops.rest ++ longer.more;
  after = simp (longer.text, stops.after, append_assoc);
  more = omega (arith, length-append stops.rest longer.more);
  given = stops.given;
  failed = stops.failed;
}

-- at the same places
pub Puts-at : {old new : SinkState} {a b c d : List ℕ} → a ≡ c → b ≡ d → Puts old new a b → Puts old new c d
Puts-at same_before same_after puts = rw (same_before, same_after) at puts

abbrev pub start_at : SinkState → List ℕ → Start
start_at sink before = record { sink = sink; before = before; ahead = [] }

-- a new block
pub Written-none : {sink : SinkState} {kept : List ℕ} (before : List ℕ) → kept ≡ [] → Written (start_at sink before) (record { sink = sink; kept = kept }) before
Written-none {sink} before none = rw none (record { given = before; puts = Puts-none sink before; text = sym (append-nil before) })

-- what was found is no failure of the sink
pub WritesTo-written : {start : Start} {now : BlockState} {w : List ℕ} {found : Result (Unit {0}) Fault} → ¬ (found ≡ Err Write) → Written start now w → WritesTo start now w found
WritesTo-written other written = record { broken = λ e. absurd (other e); written = λ _. written }

-- more is to come after, also where text stands ahead
pub Broken-extends : (start : Start) {new : SinkState} {a b : List ℕ} → Extends a b → BreaksOff start.sink new start.before (start.ahead ++ a)
    → BreaksOff start.sink new start.before (start.ahead ++ b)
Broken-extends start {a = a} more broken = BreaksOff-extends (record { more = more.more; text = simp (more.text, append_assoc) }) broken

-- what is kept grows
pub Written-more : {start : Start} {sink : SinkState} {kept grown w : List ℕ} (more : List ℕ) → grown ≡ kept ++ more
    → Written start (record { sink = sink; kept = kept }) w → Written start (record { sink = sink; kept = grown }) (w ++ more)
Written-more {start} {w = w} more grows written = record { given = written.given; puts = written.puts; text = rw (← append_assoc start.ahead w more, written.text, append_assoc, grows) refl }
