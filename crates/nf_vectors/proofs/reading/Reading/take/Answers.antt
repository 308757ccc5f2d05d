use Rattle.nf_vectors.proofs.Common.{rules, drop, refl, arith, append_assoc, take_all, take-append-drop, length-drop}
use Rattle.nf_vectors.proofs.EndingLemmas.{found_here, piece_at, runs_out}
use Rattle.nf_vectors.proofs.reading.Reading.take.Goals as goal

pub returns-in-Err-clause-finds : goal.returns-in-Err-clause-finds
returns-in-Err-clause-finds c = λ bytes stands sound.
    let before = c.loop-byte.invariant.stands bytes stands in
    found_here before _ _ _ (piece_at bytes c.args.piece.now c.loop-byte.byte-index c.loop-byte-test.true) c.loop-byte.invariant.within.taken
    (rw (c.in-Err.ensures.line refl) at c.fault.ensures) c.in-Err.ensures.size (c.in-Err.ensures.finds _ before (λ e. sound (cc)))

pub returns-in-Err-clause-memory : goal.returns-in-Err-clause-memory
returns-in-Err-clause-memory c = λ bytes stands short memory.
    let piece = c.args.piece.now in
    let i = c.loop-byte.byte-index in
    let before = c.loop-byte.invariant.stands bytes stands in
    let line = c.in-Err.ensures.line refl in
    runs_out before (omega arith) (drop i piece) (omega (arith, length-drop i piece)) (rw (append_assoc, take-append-drop) refl) (λ e. cc) (cc) memory

pub returns-clause-stands : goal.returns-clause-stands
returns-clause-stands c = search (rules, take_all)
