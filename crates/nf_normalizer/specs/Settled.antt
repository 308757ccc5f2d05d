-- What of the form of the stream-safe text can change no more, and what of a text a normalizer may use (UAX #15, sections 9
-- and 13).
use Rattle.std.specs.Prelude.{ℕ, Bool, List, take}
use Rattle.std.specs.List.{list_all}
use Rattle.nf_forms.specs.Properties.{Properties}
use Rattle.nf_forms.specs.declared.form.Form.{Form}
use Rattle.nf_forms.specs.Front.{front}
use Rattle.nf_forms.specs.StreamSafe.{stream_safe}
use Rattle.nf_forms.specs.SafeForm.{safe_form}
use Rattle.nf_forms.specs.Sound.{is_sound}
use Rattle.nf_safe.specs.LongestFront.{longest_front}

-- what of the form of the stream-safe text stands before its last starter
unfoldable pub settled : Form → Properties → List ℕ → List ℕ
settled f p x = front p (safe_form f p x)

-- the characters of the stream-safe text are sound
unfoldable pub is_usable : Properties → List ℕ → Bool
is_usable p x = list_all (is_sound p) (stream_safe p x)

-- the longest front of which that holds
unfoldable pub usable : Properties → List ℕ → List ℕ
usable p x = take (longest_front (is_usable p) x) x
