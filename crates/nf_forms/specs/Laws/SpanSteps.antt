-- A span that a loop begins with: nothing, and characters that are all own boundaries.
use Rattle.std.proofs.Common.{◌≡◌, ℕ, true, [], refl, arith}
use Rattle.nf_forms.specs.Properties.{Properties}
use Rattle.nf_forms.specs.declared.form.Form.{Form}
use Rattle.nf_forms.specs.StreamSafe.{max_run}
use Rattle.nf_forms.specs.Sound.{max_row, is_sound}
use Rattle.nf_forms.specs.Boundary.{IsOwnBoundary}
use Rattle.nf_forms.specs.Span.{BeginsRun, IsSpan}
use Rattle.nf_forms.specs.Laws.Runs.{trail-le-length}
use Rattle.nf_forms.specs.Laws.Sound.{IsSound-from_test}

module _ (p : Properties) (f : Form) where
  pub span_none : IsSpan p f [] 0 max_run
  span_none = (refl, refl)

  -- after a sound own boundary NFKD ends in no more marks than a row has members
  pub begins_run : (c : ℕ) → IsOwnBoundary p f c → is_sound p c ≡ true → BeginsRun p f c max_row
  begins_run c own_boundary sound =
      let few = (IsSound-from_test p c sound).compat_few in
      let within = trail-le-length p (p.compat c) in
      record { own_boundary = own_boundary; counted = omega arith; room = omega arith }
