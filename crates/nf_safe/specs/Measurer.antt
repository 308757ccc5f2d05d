-- Where a measurer stands in the text that it sees.
use Rattle.std.specs.Prelude.{◌≡◌, ℕ, not, ◌&&◌, List, ◌++◌, chars, Option, Some, None, if◌then◌else◌}
use Rattle.nf_forms.specs.Properties.{Properties}
use Rattle.nf_forms.specs.declared.form.Form.TheVariants.{Nfkd}
use Rattle.nf_forms.specs.Runs.{trail}
use Rattle.nf_forms.specs.Forms.{decomposed}
use Rattle.nf_forms.specs.StreamSafe.{joiner, is_too_long, stream_safe}
use Rattle.nf_forms.specs.Sound.{is_sound}
use Rattle.nf_forms.specs.Laws.Sound.{IsSoundText}
use Rattle.nf_row.specs.declared.unsound.Unsound.{Unsound}
use Rattle.nf_row.specs.declared.unsound.Rule.TheVariants.{A1}
use Rattle.nf_safe.specs.declared.measure.Measure.{Measure}
use Rattle.nf_safe.specs.declared.measurer.Measurer.{Measurer}
use Rattle.nf_safe.specs.Runs.{HasRuns}
use Rattle.nf_safe.specs.Measures.{measure_of}

-- what it has measured
abbrev pub values_of : Measurer → Measure
values_of measurer = record {
  bytes = measurer.bytes;
  chars = measurer.chars;
  nonstarters = measurer.runs.nonstarters;
  longest = measurer.runs.longest;
  put = measurer.put;
  unassigned = measurer.unassigned;
}

-- it has seen the characters x, all of them sound, and so each joiner that the process puts
pub record StandsAfter (p : Properties) (measurer : Measurer) (x : List ℕ) : Type 0 where
  pub sound : IsSoundText p (stream_safe p x)
  pub values : values_of measurer ≡ measure_of p x
  pub count : measurer.counter ≡ trail p (decomposed Nfkd p (stream_safe p x))
  pub runs : HasRuns p measurer.runs (decomposed Nfkd p x)

-- after x it has seen a front of the text, and this is the rest
pub record HasSeen (p : Properties) (measurer : Measurer) (x text rest : List ℕ) : Type 0 where
  pub front : List ℕ
  pub is_front : chars text ≡ front ++ chars rest
  pub stands : StandsAfter p measurer (x ++ front)

-- what is unsound where c follows x: c, or the joiner that has to stand before it
abbrev pub unsound_at : Properties → List ℕ → ℕ → Option ℕ
unsound_at p x c = if is_sound p c then (if is_too_long p (stream_safe p x) c && not (is_sound p joiner) then Some joiner else None) else Some c

abbrev pub refusal : ℕ → Unsound
refusal c = record { c = c; rule = A1 }
