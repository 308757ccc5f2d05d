-- What is asked of a form so that a second filter changes nothing (UAX #15, sections 1.2 and 13).
use Rattle.std.specs.Prelude.{◌≡◌, ℕ, List, IsTrue}
use Rattle.std.specs.Char.{IsScalar}
use Rattle.std.specs.Str.{all_scalars}
use Rattle.nf_forms.specs.Properties.{Properties}
use Rattle.nf_forms.specs.declared.form.Form.{Form}
use Rattle.nf_forms.specs.Sound.{is_sound}
use Rattle.nf_forms.specs.StreamSafe.{stream_safe}
use Rattle.nf_forms.specs.SafeForm.{safe_form}

-- the rows of scalar values have scalar values alone (The Unicode Standard, section 3.9, D76)
pub record HasScalarRows (p : Properties) : Type 0 where
  pub canonical : (c : ℕ) → IsScalar c → IsTrue (all_scalars (p.canonical c))
  pub compat : (c : ℕ) → IsScalar c → IsTrue (all_scalars (p.compat c))

-- of each text the form of the stream-safe text is a text of sound characters, stream-safe, and its own form
pub record ChangesOnce (f : Form) (p : Properties) : Type 0 where
  pub text : (x : List ℕ) → IsTrue (all_scalars x) → IsTrue (all_scalars (safe_form f p x))
  pub sound : (c : ℕ) → IsScalar c → IsTrue (is_sound p c)
  pub safe : (x : List ℕ) → IsTrue (all_scalars x) → stream_safe p (safe_form f p x) ≡ safe_form f p x
  pub form : (x : List ℕ) → IsTrue (all_scalars x) → safe_form f p (safe_form f p x) ≡ safe_form f p x
