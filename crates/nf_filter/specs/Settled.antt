-- What of the form of the stream-safe text can change no more, of the text that bytes give (UAX #15, sections 9 and 13).
use Rattle.std.specs.Prelude.{ℕ, List, encode_utf8_all}
use Rattle.nf_forms.specs.Properties.{Properties}
use Rattle.nf_forms.specs.declared.form.Form.{Form}
use Rattle.nf_filter.specs.declared.policy.Policy.{Policy}
use Rattle.nf_filter.specs.Policy.{text_under, allowed}
unfoldable pub use Rattle.nf_normalizer.specs.Settled.{settled, is_usable, usable}

-- the UTF-8 of what is settled of the text that the bytes give, as far as that is taken
unfoldable pub settled_utf8 : Policy → Form → Properties → List ℕ → List ℕ
settled_utf8 policy f p bytes = encode_utf8_all (settled f p (usable p (allowed policy.assigned p (text_under policy.replace bytes))))
