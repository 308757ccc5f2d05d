-- What is measured of a text (UAX #15, section 13; The Unicode Standard, section 3.11).
use Rattle.std.specs.Prelude.{ℕ, ◌-◌, not, List, length, count_by, encode_utf8_all}
use Rattle.nf_forms.specs.Properties.{Properties, is_nonstarter}
use Rattle.nf_forms.specs.declared.form.Form.TheVariants.{Nfkd}
use Rattle.nf_forms.specs.Runs.{longest}
use Rattle.nf_forms.specs.Forms.{decomposed, normal_form}
use Rattle.nf_forms.specs.StreamSafe.{stream_safe}
use Rattle.nf_safe.specs.declared.measure.Measure.{Measure}

abbrev pub measure_of : Properties → List ℕ → Measure
measure_of p x = record {
  bytes = length (encode_utf8_all x);
  chars = length x;
  nonstarters = count_by (is_nonstarter p) (decomposed Nfkd p x);
  longest = longest p (normal_form Nfkd p x);
  put = length (stream_safe p x) - length x;
  unassigned = count_by (λ c. not (p.assigned c)) x;
}
