use Rattle.std.proofs.Common.{◌≡◌, ℕ, true, List, [], ◌∷◌}
use Rattle.nf_facts.proofs.Common.{KitNfd, KitNfkd, All, ucd}
use Rattle.std.proofs.lemmas.List.Sums.{AllPass-from_list_all}
use Rattle.std.proofs.Math.Utf8.{scalar}
use Rattle.std.specs.Str.{all_scalars}
use Rattle.nf_forms.specs.Audit.{IsFullText}
use Rattle.nf_forms.specs.Laws.Audited.{scalars-all}
use Rattle.nf_facts.proofs.Rows.{full, compat-joined, canonical-marks, is_sound-ucd}
use Rattle.nf_facts.proofs.Scalars.{scalar-rows}
use Rattle.nf_facts.proofs.laws.the_data_is_audited.Goals as goal

full-of : (row : ℕ → List ℕ) (w : List ℕ) → all_scalars w ≡ true → All (λ c. row c ≡ c ∷ []) w → IsFullText row w
full-of row w scalars own = λ k d within. (AllPass-from_list_all scalar w (rw scalars-all at scalars) k d within, own k d within)

pub returns : goal.returns
unfolding ucd
returns c = λ x is. record {
  sound = is_sound-ucd x;
  full = (full-of ucd.canonical (ucd.canonical x) (scalar-rows.canonical x is) (full KitNfd x), full-of ucd.compat (ucd.compat x) (scalar-rows.compat x is) (full KitNfkd x));
  within = rw (compat-joined x);
  marks = canonical-marks x;
}
