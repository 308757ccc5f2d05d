-- The Stream-Safe Text Process (UAX #15, section 13, UAX15-D4).
use Rattle.std.specs.Prelude.{ℕ, ◌+◌, Bool, nat_lt, List, [], ◌∷◌, ◌++◌, if◌then◌else◌, fold}
use Rattle.nf_forms.specs.Properties.{Properties}
use Rattle.nf_forms.specs.declared.form.Form.TheVariants.{Nfkd}
use Rattle.nf_forms.specs.Runs.{lead, trail}
use Rattle.nf_forms.specs.Forms.{decomposed}

-- U+034F COMBINING GRAPHEME JOINER
abbrev pub joiner : ℕ
joiner = 0x34F

-- how many non-starters a run may have
abbrev pub max_run : ℕ
max_run = 30

-- after this output c would make a run of its NFKD too long
abbrev pub is_too_long : Properties → List ℕ → ℕ → Bool
is_too_long p out c = nat_lt max_run (trail p (decomposed Nfkd p out) + lead p (p.compat c))

-- the output, with a joiner after it where c needs one
abbrev pub with_room : Properties → List ℕ → ℕ → List ℕ
with_room p out c = if is_too_long p out c then out ++ joiner ∷ [] else out

-- one character more
abbrev pub safe_step : Properties → List ℕ → ℕ → List ℕ
safe_step p out c = with_room p out c ++ c ∷ []

abbrev pub stream_safe : Properties → List ℕ → List ℕ
stream_safe p x = fold (safe_step p) [] x
