-- Where a text leaves the Stream-Safe Text Format (UAX #15, section 13, UAX15-D3).
use Rattle.std.specs.Prelude.{ℕ, ◌+◌, Bool, nat_le, ◌==◌, List, length, take, Option, Some, None, if◌then◌else◌, option_map, encode_utf8_all}
use Rattle.nf_forms.specs.Properties.{Properties}
use Rattle.nf_forms.specs.declared.form.Form.TheVariants.{Nfkd}
use Rattle.nf_forms.specs.Runs.{longest}
use Rattle.nf_forms.specs.Forms.{normal_form}
use Rattle.nf_forms.specs.StreamSafe.{max_run}
use Rattle.nf_safe.specs.declared.place.Place.{Place}
use Rattle.nf_safe.specs.LongestFront.{longest_front}

-- the text's NFKD has no run of more than 30 non-starters
abbrev pub is_in_format : Properties → List ℕ → Bool
is_in_format p x = nat_le (longest p (normal_form Nfkd p x)) max_run

-- the length of the longest front in the format, and none where that is all of x
abbrev pub place : Properties → List ℕ → Option ℕ
place p x = if longest_front (is_in_format p) x == length x then None else Some (longest_front (is_in_format p) x)

-- after n characters of x, the first byte of which has the offset base
abbrev pub place_at : ℕ → List ℕ → ℕ → Place
place_at base x n = record { chars = n; bytes = base + length (encode_utf8_all (take n x)) }

abbrev pub place_from : ℕ → Properties → List ℕ → Option Place
place_from base p x = option_map (place_at base x) (place p x)
