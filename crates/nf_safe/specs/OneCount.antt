-- One count of trailing non-starters does the Stream-Safe Text Process, which UAX #15 (section 13) defines by the NFKD
-- of the whole output.
use Rattle.std.specs.Prelude.{◌≡◌, ℕ, List, IsTrue, map}
use Rattle.nf_forms.specs.Properties.{Properties}
use Rattle.nf_forms.specs.declared.form.Form.TheVariants.{Nfkd}
use Rattle.nf_forms.specs.Runs.{trail}
use Rattle.nf_forms.specs.Forms.{decomposed}
use Rattle.nf_forms.specs.StreamSafe.{joiner, is_too_long, stream_safe}
use Rattle.nf_forms.specs.Sound.{is_sound}
use Rattle.nf_forms.specs.Laws.Sound.{IsSoundText}
use Rattle.nf_safe.specs.Count.{passes}
use Rattle.nf_safe.specs.Counter.{StandsAfter}
use Rattle.nf_safe.specs.Place.{is_in_format}

-- where the joiner and the characters of the text are sound, so are those of the stream-safe text
abbrev pub StaysSound : Type 0
StaysSound = (p : Properties) (x : List ℕ) → IsTrue (is_sound p joiner) → IsSoundText p x → IsSoundText p (stream_safe p x)

-- a counter that stands after the rows of the text counts what the NFKD of the whole output ends in
abbrev pub CountsTrail : Type 0
CountsTrail = (p : Properties) (x : List ℕ) (count : ℕ) → IsSoundText p (stream_safe p x) → StandsAfter p count (map p.compat x)
    → count ≡ trail p (decomposed Nfkd p (stream_safe p x))

-- so its next answer is the definition's
abbrev pub DecidesJoiner : Type 0
DecidesJoiner = (p : Properties) (x : List ℕ) (count : ℕ) → IsSoundText p (stream_safe p x) → StandsAfter p count (map p.compat x)
    → (c : ℕ) → passes p count (p.compat c) ≡ is_too_long p (stream_safe p x) c

-- and the stream-safe text is in the format
abbrev pub EndsInFormat : Type 0
EndsInFormat = (p : Properties) (x : List ℕ) → IsSoundText p (stream_safe p x) → IsTrue (is_in_format p (stream_safe p x))
