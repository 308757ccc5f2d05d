use Rattle.nf_vectors.proofs.Common.{◌∙◌, None, [], false, length, ◌≤◌, refl, sym, arith, append-nil, rows_of, limit}
use Rattle.nf_vectors.proofs.EndingLemmas.{ends_at, all_rows, all_parts, runs_out}
use Rattle.nf_vectors.proofs.reading.Reading.finish.Goals as goal

pub returns-in-Err-clause-tells : goal.returns-in-Err-clause-tells
returns-in-Err-clause-tells c = λ bytes stands sound.
    rw (ends_at stands (omega arith) false, c.in-Err.ensures.bad (λ e. sound (cc)), c.fault.ensures, c.in-Err.ensures.line refl) refl

pub returns-clause-tells : goal.returns-clause-tells
unfolding rows_of
returns-clause-tells c = λ bytes stands.
    let few : length bytes ≤ limit = omega arith in
    (ends_at stands few false ∙ c.in_default.ensures.fine None, all_rows stands few c.in_default.ensures.ends, all_parts stands few c.in_default.ensures.ends)

pub returns-in-Err-clause-memory : goal.returns-in-Err-clause-memory
returns-in-Err-clause-memory c = λ bytes stands memory.
    let line = c.in-Err.ensures.line refl in
    runs_out stands (omega arith) [] (omega arith) (sym (append-nil bytes)) (λ _. refl) (cc) memory
