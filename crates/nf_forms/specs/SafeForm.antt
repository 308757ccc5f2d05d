-- The form of the stream-safe text (The Unicode Standard, section 3.11; UAX #15, section 13).
use Rattle.std.specs.Prelude.{ℕ, List}
use Rattle.nf_forms.specs.Properties.{Properties}
use Rattle.nf_forms.specs.declared.form.Form.{Form}
use Rattle.nf_forms.specs.Forms.{normal_form}
use Rattle.nf_forms.specs.StreamSafe.{stream_safe}

unfoldable pub safe_form : Form → Properties → List ℕ → List ℕ
safe_form f p x = normal_form f p (stream_safe p x)
