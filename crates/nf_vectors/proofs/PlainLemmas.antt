-- No form changes a sound starter that is its own decomposition.
use Rattle.nf_vectors.proofs.Common.{◌≡◌, ◌≤◌, ◌==◌, ℕ, true, [], ◌∷◌, refl, arith, bytes_eq-Decides, Properties, Form, is_usable, safe_form, holds, is_unchanged}
use Rattle.nf_forms.specs.Runs.{lead}
use Rattle.nf_forms.specs.Laws.Runs.{lead-le-length}
use Rattle.nf_forms.specs.Laws.Boundary.{safe_step-room}
use Rattle.nf_forms.specs.Laws.StreamSafe.{row-own}
use Rattle.nf_forms.specs.Laws.Ordering.{order-ordered}
use Rattle.nf_row.specs.Own.{IsOwn}

module _ (p : Properties) (c : ℕ) (plain : IsOwn p c 0) where
  held-one : (f : Form) → holds f p (c ∷ []) (c ∷ []) ≡ true
  unfolding is_usable safe_form
  held-one f =
      let lead_is : lead p (p.compat c) ≤ 1 = rw plain.row.compat (lead-le-length p (c ∷ [])) in
      grind (arith, bytes_eq-Decides, plain, row-own p f c plain.row, safe_step-room p [] c (omega arith), order-ordered p (c ∷ []) refl)

  pub plain_is_unchanged : is_unchanged p c ≡ true
  plain_is_unchanged = simp held-one
