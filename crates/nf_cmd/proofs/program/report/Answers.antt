use Rattle.nf_cmd.proofs.Common.{◌≡◌, ◌∙◌, ◌++◌, Result, Ok, Err, true, [], refl, ap, sym, OnOk, is_ok, Appends-nil, line_of}
use Rattle.nf_cmd.proofs.program.report.Goals as goal
use Rattle.nf_cmd.proofs.program.report.Goals.{then-is_ok, else-is_ok}

at_ok : {X E : Type 0} (r : Result X E) {P : Type 0} → true ≡ is_ok r → OnOk r P → P
at_ok (Ok x) is h = h
at_ok (Err e) is h = cc

pub returns-clause-line : goal.returns-clause-line
unfolding line_of
returns-clause-line g c =
    elim c.if-is_ok.branch [
      | then-is_ok w ↦
          let front = w.write_front.ensures.front in
          let made = at_ok _ w.if-is_ok.ensures.value c.writeln.ensures.bytes in
          (front.0, front.1, ap line_of c.in-Err.is ∙ sym (w.as_slice.ensures.value ∙ made ∙ ap (λ start. start ++ line_of (Err c.in-Err.fault)) c.new-line.ensures) ∙ front.2, rw w.err-is front.3)
      | else-is_ok w ↦ ([], line_of c.args.found, refl, rw w.err-is (Appends-nil _))
    ]
