-- Bytes that are cut after a line feed come to what the parts come to, one after the other (UAX #15, section 9: nothing
-- composes over a line feed).
use Rattle.std.specs.Prelude.{◌≡◌, ◌⊎◌, ◌+◌, ℕ, List, [], ◌∷◌, ◌++◌, length, Option, None}
use Rattle.std.specs.Result.{result_err}
use Rattle.nf_forms.specs.Properties.{Properties}
use Rattle.nf_forms.specs.declared.form.Form.{Form}
use Rattle.nf_forms.specs.Ucd.{ucd}
use Rattle.nf_facts.specs.LineFeed.{line_feed}
use Rattle.nf_filter.specs.declared.fault.Fault.{Fault}
use Rattle.nf_filter.specs.declared.policy.Policy.{Policy}
use Rattle.nf_filter.specs.Settled.{settled_utf8}
use Rattle.nf_filter.specs.Faults.{fault_in}
use Rattle.nf_filter.specs.Finishes.{end_of, final_utf8}
use Rattle.nf_lines.specs.Cut.{EndsInLineFeed}

-- the fault at the end of the bytes, the first of which has the offset `base`, if there is none before
abbrev pub end_fault : Policy → Properties → ℕ → List ℕ → Option Fault
end_fault policy p base bytes = result_err (end_of policy p base bytes)

-- b is a, or that and a line feed more
abbrev pub SameOrLineFeed : List ℕ → List ℕ → Type 0
SameOrLineFeed a b = (b ≡ a) ⊎ (b ≡ a ++ line_feed ∷ [])

-- the lines, the first byte of which has the offset `base`, have no fault, and any bytes stand after them
pub record StandAlone (policy : Policy) (f : Form) (p : Properties) (base : ℕ) (lines rest : List ℕ) : Type 0 where
  pub whole : end_fault policy p base lines ≡ None
  -- the faults are those of the rest
  pub fault : fault_in policy p base (lines ++ rest) ≡ fault_in policy p (base + length lines) rest
  pub end : end_fault policy p base (lines ++ rest) ≡ end_fault policy p (base + length lines) rest
  -- where that does not end with a fault, all comes to the form of the lines and that of the rest
  pub final : end_fault policy p (base + length lines) rest ≡ None → final_utf8 policy f p (lines ++ rest) ≡ final_utf8 policy f p lines ++ final_utf8 policy f p rest
  -- what is settled of all lacks the last line feed as long as no starter stands after it
  pub settled : SameOrLineFeed (settled_utf8 policy f p (lines ++ rest)) (final_utf8 policy f p lines ++ settled_utf8 policy f p rest)

-- so it is of Unicode's data
abbrev pub LinesStandAlone : Type 0
LinesStandAlone = (policy : Policy) (f : Form) (base : ℕ) (lines rest : List ℕ) → EndsInLineFeed lines → fault_in policy ucd base lines ≡ None → StandAlone policy f ucd base lines rest
