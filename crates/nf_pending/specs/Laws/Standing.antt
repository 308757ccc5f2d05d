-- What a machine holds, in numbers.
use Rattle.std.proofs.Common.{◌≡◌, ℕ, List, sym, ap, ◌∙◌}
use Rattle.nf_forms.specs.Properties.{Properties}
use Rattle.nf_forms.specs.Runs.{trail}
use Rattle.nf_forms.specs.declared.form.Form.{Form}
use Rattle.nf_forms.specs.Laws.Front.{trail-after}
use Rattle.nf_boundary.specs.Laws.Held.{held-length}
use Rattle.nf_pending.specs.declared.pending.Pending.{Pending}
use Rattle.nf_pending.specs.StandsAfter.{run_len, StandsAfter}

-- it holds the marks that the text ends in
pub run_len-trail : (f : Form) (p : Properties) (pending : Pending) (w : List ℕ) → StandsAfter f p pending w → run_len pending ≡ trail p w
run_len-trail f p pending w s =
    held-length p s.run pending.marks.items s.marks s.held
    ∙ sym (ap (λ v. trail p v) s.text ∙ trail-after p s.head s.run s.ends s.marks)
